use Rattle.std.proofs.Common.{Bool, not, ap, ◌∙◌}
use Rattle.std.specs.Prelude.{find}
use Rattle.elf_relocations.specs.declared.record.Applied.{Applied}
use Rattle.unit_report.specs.Fields.{unread_refusal}
use Rattle.unit_report.proofs.fields.check_records.Goals as goal

pub returns-in-Some : goal.returns-in-Some
returns-in-Some g c = λ _.
    ap unread_refusal c.in-Some.ensures
    ∙ ap (λ (known : Applied → Bool). unread_refusal (find (λ r. not (known r)) c.args.records.now)) c.in_ok-fields.ensures

pub returns : goal.returns
returns g c =
    ap unread_refusal c.in-None.ensures
    ∙ ap (λ (known : Applied → Bool). unread_refusal (find (λ r. not (known r)) c.args.records.now)) c.in_ok-fields.ensures
