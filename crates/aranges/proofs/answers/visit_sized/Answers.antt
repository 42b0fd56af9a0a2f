use Rattle.std.proofs.Common.{map, ap, arith}
use Rattle.aranges.specs.Answers.{tuple}
use Rattle.aranges.specs.Links.{header_is}
use Rattle.aranges.proofs.Visits.{leads_end, leads_stop, leads_on}
use Rattle.aranges.proofs.answers.visit_sized.Goals as goal

pub loop-answer-init : goal.loop-answer-init
loop-answer-init g c = (rw (c.clone-input.ensures, c.requires) (record { leads = λ s. s }), omega arith)

pub loop-answer-preserved : goal.loop-answer-preserved
loop-answer-preserved g c =
    let h = header_is g.R.Reader.means g.R.Offset.ReaderOffset.number c.args.header.now in (
      leads_on c.loop-answer.invariant.0 c.answer.result (ap (map tuple) (c.in-Some.ensures.answers h)) c.in_ok-answer.was c.answer.ensures,
      omega (arith, c.loop-answer.invariant.1, c.in-Some.ensures.bound),
    )

pub returns-in_err-answer : goal.returns-in_err-answer
returns-in_err-answer g c =
    let h = header_is g.R.Reader.means g.R.Offset.ReaderOffset.number c.args.header.now in
    leads_stop c.loop-answer.invariant.0 c.answer.result c.from_residual.result (ap (map tuple) (c.in-Some.ensures.answers h)) c.in_err-answer.was c.from_residual.ensures c.answer.ensures

pub returns : goal.returns
returns g c = leads_end c.loop-answer.invariant.0 (ap (map tuple) (c.in_default.ensures.answers (header_is g.R.Reader.means g.R.Offset.ReaderOffset.number c.args.header.now)))
