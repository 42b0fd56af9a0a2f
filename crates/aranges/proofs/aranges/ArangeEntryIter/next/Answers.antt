use Rattle.std.proofs.Common.{Ok, ap, ◌∙◌}
use Rattle.readers.specs.declared.common.Encoding.{Encoding}
use Rattle.aranges.specs.Tuples.{converted}
use Rattle.aranges.specs.Links.{entries_is}
use Rattle.aranges.proofs.Draws.{drawn, ends_found, ends_fault, goes_on}
use Rattle.aranges.proofs.aranges.ArangeEntryIter.next.Goals as goal

pub returns-in_err-entry : goal.returns-in_err-entry
returns-in_err-entry g c =
    let s = c.args.self.now.encoding.address_size in
    let m = g.R.Reader.means c.loop-outcome.self.input in
    let a = g.R.Reader.means c.next_outcome.new.input in
    let d = drawn converted s m a _ c.in-Some.ensures.leaves c.in-Some.ensures.answers in
    ends_fault converted s c.loop-outcome.self.encoding.address_size m a (entries_is g.R.Reader.means c.args.self.now) (ap (λ (e : Encoding). e.address_size) c.loop-outcome.invariant.1) c.loop-outcome.invariant.0 c.from_residual.result c.in_err-entry.field-0.0 c.from_residual.ensures.1
    (rw c.in_err-entry.was at d)

pub returns-in-Some-2 : goal.returns-in-Some-2
returns-in-Some-2 g c =
    let s = c.args.self.now.encoding.address_size in
    let m = g.R.Reader.means c.loop-outcome.self.input in
    let a = g.R.Reader.means c.next_outcome.new.input in
    let d = drawn converted s m a _ c.in-Some.ensures.leaves c.in-Some.ensures.answers in
    ends_found converted s c.loop-outcome.self.encoding.address_size m a (entries_is g.R.Reader.means c.args.self.now) (ap (λ (e : Encoding). e.address_size) c.loop-outcome.invariant.1) c.loop-outcome.invariant.0 c.in-Some-2.entry (rw (c.in_ok-entry.was ∙ ap Ok c.in-Some-2.is) at d)

pub loop-outcome-smaller : goal.loop-outcome-smaller
loop-outcome-smaller g c =
    (drawn converted c.args.self.now.encoding.address_size (g.R.Reader.means c.loop-outcome.self.input) (g.R.Reader.means c.next_outcome.new.input) _
    c.in-Some.ensures.leaves c.in-Some.ensures.answers).shorter

pub loop-outcome-preserved : goal.loop-outcome-preserved
loop-outcome-preserved g c =
    let s = c.args.self.now.encoding.address_size in
    let m = g.R.Reader.means c.loop-outcome.self.input in
    let a = g.R.Reader.means c.next_outcome.new.input in
    let d = drawn converted s m a _ c.in-Some.ensures.leaves c.in-Some.ensures.answers in
    (goes_on converted s m a (entries_is g.R.Reader.means c.args.self.now) c.loop-outcome.invariant.0 (rw (c.in_ok-entry.was ∙ ap Ok c.in_default-2.is) at d), c.loop-outcome.invariant.1)
