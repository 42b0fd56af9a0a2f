use Rattle.std.proofs.Common.{◌∙◌, arith}
use Rattle.aranges.specs.Tuples.{converted}
use Rattle.aranges.proofs.Draws.{drawn}
use Rattle.aranges.proofs.Visits.{answers_next, answers_passed}
use Rattle.aranges.proofs.answers.next_answer.Goals as goal

pub returns-in-Some-clause-answers : goal.returns-in-Some-clause-answers
returns-in-Some-clause-answers g c = λ h.
    c.loop-outcome.invariant.0 h
    ∙ answers_next h c.loop-outcome.number c.args.address_size (g.R.Reader.means c.loop-outcome.input) (g.R.Reader.means c.next_outcome.new.input) c.in_ok-outcome.outcome
    c.in_ok-outcome.ensures.leaves c.in_ok-outcome.ensures.answers c.offset_id-id.result.0 c.in-Some.outcome c.offset_id-id.ensures c.in-Some.ensures

pub returns-in-Some-clause-bound : goal.returns-in-Some-clause-bound
returns-in-Some-clause-bound g c =
    let d = drawn converted c.args.address_size (g.R.Reader.means c.loop-outcome.input) (g.R.Reader.means c.next_outcome.new.input) _ c.in_ok-outcome.ensures.leaves c.in_ok-outcome.ensures.answers in
    omega (arith, d.shorter, c.loop-outcome.invariant.1)

pub returns-in-Some-clause-shorter : goal.returns-in-Some-clause-shorter
returns-in-Some-clause-shorter g c =
    let d = drawn converted c.args.address_size (g.R.Reader.means c.loop-outcome.input) (g.R.Reader.means c.next_outcome.new.input) _ c.in_ok-outcome.ensures.leaves c.in_ok-outcome.ensures.answers in
    omega (arith, d.shorter, c.loop-outcome.invariant.2)

pub loop-outcome-smaller : goal.loop-outcome-smaller
loop-outcome-smaller g c =
    (drawn converted c.args.address_size (g.R.Reader.means c.loop-outcome.input) (g.R.Reader.means c.next_outcome.new.input) _ c.in_ok-outcome.ensures.leaves c.in_ok-outcome.ensures.answers).shorter

pub loop-outcome-preserved : goal.loop-outcome-preserved
loop-outcome-preserved g c =
    let m = g.R.Reader.means c.loop-outcome.input in
    let a = g.R.Reader.means c.next_outcome.new.input in
    let d = drawn converted c.args.address_size m a _ c.in_ok-outcome.ensures.leaves c.in_ok-outcome.ensures.answers in (
      λ h. c.loop-outcome.invariant.0 h
          ∙ answers_passed h c.loop-outcome.number c.args.address_size m a c.in_ok-outcome.outcome c.in_ok-outcome.ensures.leaves c.in_ok-outcome.ensures.answers c.in_default.ensures,
      omega (arith, d.shorter, c.loop-outcome.invariant.1),
      omega (arith, d.shorter, c.loop-outcome.invariant.2),
    )
