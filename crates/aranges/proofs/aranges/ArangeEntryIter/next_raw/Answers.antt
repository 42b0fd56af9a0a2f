use Rattle.std.proofs.Common.{ap, option_map}
use Rattle.readers.specs.Links.{fault_is}
use Rattle.readers.specs.declared.common.Encoding.{Encoding}
use Rattle.aranges.specs.Tuples.{raw}
use Rattle.aranges.specs.Links.{entries_is, outcome_of}
use Rattle.aranges.proofs.Draws.{drawn, says_read, says_refused, raw_null, raw_entry, ends_found, ends_fault, goes_on}
use Rattle.aranges.proofs.aranges.ArangeEntryIter.next_raw.Goals as goal

pub returns-in_err-begin : goal.returns-in_err-begin
returns-in_err-begin g c =
    let s = c.args.self.now.encoding.address_size in
    let m = g.R.Reader.means c.loop-begin.self.input in
    let a = g.R.Reader.means c.next_tuple.new.input in
    let x = c.in_err-begin.field-0.0 in
    ends_fault raw s c.loop-begin.self.encoding.address_size m a (entries_is g.R.Reader.means c.args.self.now) (ap (λ (e : Encoding). e.address_size) c.loop-begin.invariant.1) c.loop-begin.invariant.0 c.from_residual.result x c.from_residual.ensures.1
    (drawn raw s m a _ c.in_err-begin.ensures.leaves (ap (option_map outcome_of) (says_refused raw s m (fault_is x) c.in_err-begin.ensures.answers)))

pub returns-then-begin-ne0 : goal.returns-then-begin-ne0
returns-then-begin-ne0 g c =
    let s = c.args.self.now.encoding.address_size in
    let m = g.R.Reader.means c.loop-begin.self.input in
    let a = g.R.Reader.means c.next_tuple.new.input in
    let b = c.in-Some.begin in
    let n = c.in-Some.length in
    ends_found raw s c.loop-begin.self.encoding.address_size m a (entries_is g.R.Reader.means c.args.self.now) (ap (λ (e : Encoding). e.address_size) c.loop-begin.invariant.1) c.loop-begin.invariant.0 (record { range = record { begin = b; end = 0 }; length = n })
    (rw (raw_entry s b n c.then-begin-ne0.either) at
    (drawn raw s m a _ c.in_ok-begin.ensures.leaves (ap (option_map outcome_of) (says_read raw s m c.in_ok-begin.field-0 b n c.in-Some.is c.in_ok-begin.ensures.answers).0)))

pub loop-begin-preserved : goal.loop-begin-preserved
loop-begin-preserved g c =
    let s = c.args.self.now.encoding.address_size in
    let m = g.R.Reader.means c.loop-begin.self.input in
    let a = g.R.Reader.means c.next_tuple.new.input in
    let b = c.in-Some.begin in
    let n = c.in-Some.length in (
      goes_on raw s m a (entries_is g.R.Reader.means c.args.self.now) c.loop-begin.invariant.0
          (rw (raw_null s b n c.if-begin-ne0.false c.if-length-ne0.false) at
          (drawn raw s m a _ c.in_ok-begin.ensures.leaves (ap (option_map outcome_of) (says_read raw s m c.in_ok-begin.field-0 b n c.in-Some.is c.in_ok-begin.ensures.answers).0))),
      c.loop-begin.invariant.1,
    )
