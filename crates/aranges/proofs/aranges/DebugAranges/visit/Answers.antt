use Rattle.std.proofs.Common.{map, length, Some, None, Ok, Err, sym, ap, ◌∙◌, arith}
use Rattle.readers.specs.Reading.{Meaning}
use Rattle.aranges.specs.Links.{header_is, is_break}
use Rattle.aranges.specs.Answers.{tuple, answers_on}
use Rattle.aranges.proofs.Shorter.{next_shorter}
use Rattle.aranges.proofs.Visits.{items_next, items_all, leads_stop, leads_on, leads_row_stop, leads_row, leads_end, leads_last}
use Rattle.aranges.proofs.aranges.DebugAranges.visit.Goals as goal

pub loop-header-init : goal.loop-header-init
loop-header-init g c = (rw c.headers-headers.ensures.input (record { leads = λ s. s }), c.headers-headers.ensures.start)

pub returns-in_err-enter-in-Ok-Some : goal.returns-in_err-enter-in-Ok-Some
returns-in_err-enter-in-Ok-Some g c =
    let e = items_next g.R.Offset.ReaderOffset.limit (g.R.Reader.means c.args.self.now.section).id (header_is g.R.Reader.means g.R.Offset.ReaderOffset.number) c.loop-header.headers.start
    c.offset-offset.result.0 (g.R.Reader.means c.loop-header.headers.input) (g.R.Reader.means c.next.new.self.input) (Ok (Some c.in-Ok-Some.header)) c.loop-header.invariant.1
    c.offset-offset.ensures (rw c.in-Ok-Some.field-0-is at c.in-Ok-Some.ensures.did) in
    leads_stop c.loop-header.invariant.0 c.enter.result c.from_residual.result e c.in_err-enter-in-Ok-Some.was c.from_residual.ensures (rw c.in-Ok-Some.header-is at c.enter.ensures)

pub returns-in_err-visit-in-Ok-Some : goal.returns-in_err-visit-in-Ok-Some
returns-in_err-visit-in-Ok-Some g c =
    let e = items_next g.R.Offset.ReaderOffset.limit (g.R.Reader.means c.args.self.now.section).id (header_is g.R.Reader.means g.R.Offset.ReaderOffset.number) c.loop-header.headers.start
    c.offset-offset.result.0 (g.R.Reader.means c.loop-header.headers.input) (g.R.Reader.means c.next.new.self.input) (Ok (Some c.in-Ok-Some.header)) c.loop-header.invariant.1
    c.offset-offset.ensures (rw c.in-Ok-Some.field-0-is at c.in-Ok-Some.ensures.did) in
    leads_row_stop (items_all g.R.Offset.ReaderOffset.limit (g.R.Reader.means c.args.self.now.section).id (g.R.Reader.means c.next.new.self.input))
    (map tuple (answers_on (header_is g.R.Reader.means g.R.Offset.ReaderOffset.number c.in-Ok-Some.header))) c.visit.result c.from_residual-in_err-visit-in-Ok-Some.result
    (leads_on c.loop-header.invariant.0 c.enter.result e c.in_ok-enter-in-Ok-Some.was (rw c.in-Ok-Some.header-is at c.enter.ensures)) c.in_err-visit-in-Ok-Some.was c.from_residual-in_err-visit-in-Ok-Some.ensures (rw c.in-Ok-Some.header-is at c.visit.ensures)

pub loop-header-smaller : goal.loop-header-smaller
loop-header-smaller g c =
    let m = g.R.Reader.means c.loop-header.headers.input in
    let d = rw c.in-Ok-Some.field-0-is at c.in-Ok-Some.ensures.did in
    let s = next_shorter g.R.Offset.ReaderOffset.limit c.loop-header.headers.start m (header_is g.R.Reader.means g.R.Offset.ReaderOffset.number c.in-Ok-Some.header) (sym d.answers) in
    omega (arith, s, ap (λ (n : Meaning). length n.rest) c.in-Ok-Some.ensures.did.leaves)

pub loop-header-preserved : goal.loop-header-preserved
loop-header-preserved g c =
    let e = items_next g.R.Offset.ReaderOffset.limit (g.R.Reader.means c.args.self.now.section).id (header_is g.R.Reader.means g.R.Offset.ReaderOffset.number) c.loop-header.headers.start
    c.offset-offset.result.0 (g.R.Reader.means c.loop-header.headers.input) (g.R.Reader.means c.next.new.self.input) (Ok (Some c.in-Ok-Some.header)) c.loop-header.invariant.1
    c.offset-offset.ensures (rw c.in-Ok-Some.field-0-is at c.in-Ok-Some.ensures.did) in (
      leads_row (items_all g.R.Offset.ReaderOffset.limit (g.R.Reader.means c.args.self.now.section).id (g.R.Reader.means c.next.new.self.input))
          (map tuple (answers_on (header_is g.R.Reader.means g.R.Offset.ReaderOffset.number c.in-Ok-Some.header))) c.visit.result
          (leads_on c.loop-header.invariant.0 c.enter.result e c.in_ok-enter-in-Ok-Some.was (rw c.in-Ok-Some.header-is at c.enter.ensures)) c.in_ok-visit-in-Ok-Some.was (rw c.in-Ok-Some.header-is at c.visit.ensures),
      c.in-Ok-Some.ensures.start ∙ c.loop-header.invariant.1,
    )

pub returns-in-Ok-None : goal.returns-in-Ok-None
returns-in-Ok-None g c =
    let f = header_is g.R.Reader.means g.R.Offset.ReaderOffset.number in
    leads_end c.loop-header.invariant.0
    (items_next g.R.Offset.ReaderOffset.limit (g.R.Reader.means c.args.self.now.section).id f c.loop-header.headers.start c.offset-offset.result.0 (g.R.Reader.means c.loop-header.headers.input)
    (g.R.Reader.means c.next.new.self.input) (Ok None) c.loop-header.invariant.1 c.offset-offset.ensures (rw c.in-Ok-None.field-0-is at c.in-Ok-None.ensures.did))

pub returns-in-Err : goal.returns-in-Err
returns-in-Err g c =
    let f = header_is g.R.Reader.means g.R.Offset.ReaderOffset.number in
    leads_last c.loop-header.invariant.0 (is_break c.spoilt.result)
    (items_next g.R.Offset.ReaderOffset.limit (g.R.Reader.means c.args.self.now.section).id f c.loop-header.headers.start c.offset-offset.result.0 (g.R.Reader.means c.loop-header.headers.input)
    (g.R.Reader.means c.next.new.self.input) (Err c.in-Err.error) c.loop-header.invariant.1 c.offset-offset.ensures c.in-Err.ensures.did) c.spoilt.ensures
