use Rattle.std.proofs.Common.{◌≡◌}
use Rattle.elf.specs.FileLinks.{entries_left}
use Rattle.elf_relocations.specs.Links.{source_is}
use Rattle.elf_relocations.specs.Tables.{with_entries}
use Rattle.elf_relocations.specs.Links.{builder_is}
use Rattle.elf_relocations.proofs.table.Builder.add_entries.Given as goal

-- the entries left make of what is made so far what all make
abbrev pub invariant-loop-entry : goal.invariant-loop-entry
invariant-loop-entry l =
    with_entries (source_is l.source) (builder_is l.self) (entries_left l.entry-iterator)
    ≡ with_entries (source_is l.source) (builder_is l.initial.self) (entries_left l.initial.entries)
