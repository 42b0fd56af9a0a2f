use Rattle.std.proofs.Common.{ap, arith, map}
use Rattle.aranges.proofs.Few.{few_items}
use Rattle.unit_report.specs.SurveyLinks.{oddity_is}
use Rattle.unit_report.proofs.Visits.{survey_at, survey_after}
use Rattle.unit_report.proofs.survey.survey_section.Goals as goal

pub returns-in-Continue : goal.returns-in-Continue
returns-in-Continue g c =
    let few = few_items g.R.Offset.ReaderOffset.limit (g.R.Reader.means c.args.section.now.section) in
    survey_after c.in-Continue.ensures (ap (λ xs. survey_at 0 0 (map oddity_is xs)) c.new.ensures.items) (omega (arith, few, c.into_u64-total.type_inv))
