use Rattle.std.proofs.Common.{◌≡◌, ◌||◌, refl, ap, ◌∙◌}
use Rattle.std.specs.List.{list_any}
use Rattle.elf_relocations.specs.declared.record.Applied.{Applied}
use Rattle.aranges.specs.Answers.{items_in}
use Rattle.unit_report.specs.Fields.{is_of, is_read}
use Rattle.unit_report.specs.FieldLinks.{is_known}
use Rattle.unit_report.proofs.Visits.{known_after}
use Rattle.unit_report.proofs.fields.Fields.of.Goals as goal

pub returns-in-Continue : goal.returns-in-Continue
returns-in-Continue g c =
    let items = items_in g.R.Offset.ReaderOffset.limit (g.R.Reader.means c.args.section.now.section) in
    let known : (r : Applied) → is_known c.visit.new.visitor r ≡ is_read items r = λ r.
    known_after c.in-Continue.ensures refl r ∙ ap (λ ks. list_any (is_of r) ks || is_read items r) c.new.ensures.empty in
    λ i r. known r i
