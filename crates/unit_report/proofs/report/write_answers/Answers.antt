use Rattle.std.proofs.Common.{◌≡◌, ℕ, ◌++◌, ◌^◌, map, length, rules, string_bytes, sym, ap, ◌∙◌}
use Rattle.std.specs.List.{count_by}
use Rattle.readers.specs.Reading.{Meaning}
use Rattle.lookup.specs.Lookups.{look_in}
use Rattle.lookup.specs.Links.{looked_is}
use Rattle.unit_report.specs.Images.{answers_at}
use Rattle.unit_report.specs.ImageLinks.{image_is, Refused}
use Rattle.unit_report.specs.Lines.{total_line}
use Rattle.unit_report.specs.Reports.{is_found, answers_text}
use Rattle.unit_report.proofs.Answered.{answered, unanswered}
use Rattle.unit_report.proofs.Appends.{two}
use Rattle.unit_report.proofs.report.write_answers.Goals as goal

pub returns-in_err-write_lines : goal.returns-in_err-write_lines
returns-in_err-write_lines c =
    let i = image_is c.args.image.now in
    let xs = c.args.addresses.now in
    let ls = map (looked_is (λ x. x)) c.deref.result.now in
    let same : ls ≡ answers_at i xs =
    ap (map (looked_is (λ x. x))) c.deref.ensures.value ∙ c.in_ok-answers.ensures
    ∙ ap (λ (m : Meaning). map (λ (a : ℕ). look_in (2 ^ 64) a m) xs) c.aranges.ensures in
    let w : Refused c.in_err-write_lines.field-0.0 (answers_text i xs) = unanswered i xs ls same c.in_err-write_lines.field-0.0 c.in_err-write_lines.ensures in
    search rules

pub returns : goal.returns
returns c =
    let i = image_is c.args.image.now in
    let xs = c.args.addresses.now in
    let ls = map (looked_is (λ x. x)) c.deref.result.now in
    let same : ls ≡ answers_at i xs =
    ap (map (looked_is (λ x. x))) c.deref.ensures.value ∙ c.in_ok-answers.ensures
    ∙ ap (λ (m : Meaning). map (λ (a : ℕ). look_in (2 ^ 64) a m) xs) c.aranges.ensures in
    let w = c.in_ok-write_lines.ensures in
    let n = c.count_found.result in (
      w.0 ++ total_line (length xs) n,
      answered i xs ls same w.0 n w.1 (c.count_found.ensures ∙ ap (λ ys. count_by is_found (map (looked_is (λ x. x)) ys)) (c.deref-2.ensures.value ∙ sym c.deref.ensures.value)),
      two (string_bytes c.args.out.now) w.0 (total_line (length xs) n) (string_bytes c.write_lines.new.out) (string_bytes c.write_totals.new.out) w.2 c.in_ok-write_totals.ensures,
    )
