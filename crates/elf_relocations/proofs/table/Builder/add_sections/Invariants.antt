use Rattle.std.proofs.Common.{◌≡◌, filter}
use Rattle.elf.specs.FileLinks.{file_is, sections_left}
use Rattle.elf.specs.Files.{all_sections}
use Rattle.elf_relocations.specs.Tables.{relocates, with_sections}
use Rattle.elf_relocations.specs.Links.{builder_is}
use Rattle.elf_relocations.proofs.table.Builder.add_sections.Given as goal

-- the sections left make of what is made so far what all make
abbrev pub invariant-loop-section : goal.invariant-loop-section
invariant-loop-section l =
    with_sections (file_is l.file) l.bytes (builder_is l.self) (filter (relocates l.target) (sections_left l.section-iterator))
    ≡ with_sections (file_is l.file) l.bytes (builder_is l.initial.self) (filter (relocates l.target) (all_sections (file_is l.file)))
