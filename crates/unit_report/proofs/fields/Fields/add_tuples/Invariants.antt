use Rattle.std.proofs.Common.{◌≡◌, ◌-◌, ◌≤◌, ◌||◌}
use Rattle.std.specs.List.{list_any}
use Rattle.elf_relocations.specs.declared.record.Applied.{Applied}
use Rattle.unit_report.specs.Fields.{tuple_fields, is_of}
use Rattle.unit_report.specs.FieldLinks.{is_known}
use Rattle.unit_report.proofs.fields.Fields.add_tuples.Given as goal

-- what is known, and the tuples left, is what was known and all tuples
abbrev pub invariant-loop : goal.invariant-loop
invariant-loop l =
    (l.counter ≤ l.count)
    × ((r : Applied)
    → (is_known l.self r || list_any (is_of r) (tuple_fields (l.count - l.counter) l.place l.size))
    ≡ (is_known l.fn.self r || list_any (is_of r) (tuple_fields l.fn.count l.fn.start l.fn.size)))
