use Rattle.std.proofs.Common.{◌≡◌, ◌++◌, ◌^◌, true, string_bytes, ap, ◌∙◌, rules}
use Rattle.readers.specs.Reading.{Meaning}
use Rattle.aranges.specs.Answers.{items_in}
use Rattle.unit_report.specs.Images.{items_of}
use Rattle.unit_report.specs.ImageLinks.{image_is, Refused}
use Rattle.unit_report.specs.Lines.{oddity_line, survey_line}
use Rattle.unit_report.specs.Reports.{head_lines, oddity_lines, report_in}
use Rattle.unit_report.specs.Surveys.{survey_of}
use Rattle.unit_report.specs.SurveyLinks.{oddity_is, survey_is}
use Rattle.unit_report.proofs.Answered.{halted, completed, incomplete}
use Rattle.unit_report.proofs.Appends.{two, three}
use Rattle.unit_report.proofs.report.write_image.Goals as goal

pub returns-in-Some : goal.returns-in-Some
returns-in-Some c =
    let i = image_is c.args.image.now in
    let s = survey_is c.in_ok-survey.survey in
    let o = oddity_is c.in-Some.oddity in
    let same : s ≡ survey_of (items_of i) =
    c.in_ok-survey.ensures ∙ ap (λ (m : Meaning). survey_of (items_in (2 ^ 64) m)) c.aranges.ensures in (
      head_lines i ++ oddity_line true o,
      halted i c.args.addresses.now c.args.strict s same o c.in-Some.ensures,
      two (string_bytes c.args.out.now) (head_lines i) (oddity_line true o) (string_bytes c.write_head.new.out) (string_bytes c.write_oddity.new.out)
          c.in_ok-write_head.ensures c.in_ok-write_oddity-in-Some.ensures,
    )

pub returns-in_err-write_answers-in-None : goal.returns-in_err-write_answers-in-None
returns-in_err-write_answers-in-None c =
    let i = image_is c.args.image.now in
    let s = survey_is c.in_ok-survey.survey in
    let e = c.in_err-write_answers-in-None.field-0.0 in
    let same : s ≡ survey_of (items_of i) =
    c.in_ok-survey.ensures ∙ ap (λ (m : Meaning). survey_of (items_in (2 ^ 64) m)) c.aranges.ensures in
    let w : Refused e (report_in c.args.strict c.args.addresses.now i) =
    incomplete i c.args.addresses.now c.args.strict s same e c.in-None.ensures c.in_err-write_answers-in-None.ensures in
    search rules

pub returns : goal.returns
returns c =
    let i = image_is c.args.image.now in
    let s = survey_is c.in_ok-survey.survey in
    let w = c.in_ok-write_answers-in-None.ensures in
    let same : s ≡ survey_of (items_of i) =
    c.in_ok-survey.ensures ∙ ap (λ (m : Meaning). survey_of (items_in (2 ^ 64) m)) c.aranges.ensures in (
      head_lines i ++ (oddity_lines s.oddities ++ (survey_line s ++ w.0)),
      completed i c.args.addresses.now c.args.strict s same w.0 c.in-None.ensures w.1,
      two (string_bytes c.args.out.now) (head_lines i) (oddity_lines s.oddities ++ (survey_line s ++ w.0)) (string_bytes c.write_head.new.out) (string_bytes c.write_answers.new.out)
          c.in_ok-write_head.ensures
          (three (string_bytes c.write_head.new.out) (oddity_lines s.oddities) (survey_line s) w.0
          (string_bytes c.write_oddities.new.out) (string_bytes c.write_survey.new.out) (string_bytes c.write_answers.new.out)
          c.in_ok-write_oddities-in-None.ensures c.in_ok-write_survey-in-None.ensures w.2),
    )
