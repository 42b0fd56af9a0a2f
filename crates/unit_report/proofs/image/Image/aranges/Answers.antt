use Rattle.std.proofs.Common.{◌^◌, ap, ◌∙◌}
use Rattle.readers.specs.Reading.{Meaning}
use Rattle.elf_relocations.specs.declared.record.Applied.{Applied}
use Rattle.relocate.specs.Relocating.{by_table, uniform_policy, layer}
use Rattle.unit_report.proofs.image.Image.aranges.Goals as goal

pub returns : goal.returns
returns c =
    rw c.new-2.ensures
    (c.new.ensures
    ∙ ap (λ (m : Meaning). layer (2 ^ 64) (uniform_policy (by_table (λ (a : Applied). a.relocation) c.args.self.now.table)) m.id m) c.reader.ensures)
