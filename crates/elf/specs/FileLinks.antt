-- How a file, the parts of it, and what iterators over them have left stand for what the bytes say.
use Rattle.std.specs.Prelude.{◌-◌, List}
use Rattle.elf.specs.declared.file.ElfFile.{ElfFile}
use Rattle.elf.specs.declared.section.Section.{Section}
use Rattle.elf.specs.declared.sections.Sections.{Sections}
use Rattle.elf.specs.declared.symbol.SymbolTable.{SymbolTable}
use Rattle.elf.specs.declared.relocation.RelocationEntry.{RelocationEntry}
use Rattle.elf.specs.declared.relocation.Relocations.{Relocations}
use Rattle.elf.specs.Files.{File, sections_from}
use Rattle.elf.specs.Symbols.{Table}
use Rattle.elf.specs.Relocations.{Entries, entries_from}
use Rattle.elf.specs.Links.{words_is}

abbrev pub file_is : ElfFile → File
file_is f =
    record {
      words = words_is f.words;
      kind = f.kind;
      machine = f.machine;
      table = f.table;
      count = f.count;
      names = f.names;
    }

abbrev pub sections_left : Sections → List Section
sections_left s = sections_from (file_is s.file) s.indexes.start (s.indexes.end - s.indexes.start)

abbrev pub table_is : SymbolTable → Table
table_is t = record { entries = words_is t.entries; sections = words_is t.sections }

abbrev pub relocations_is : Relocations → Entries
relocations_is r = record { words = words_is r.words; addends = r.addends; mips64 = r.mips64 }

abbrev pub entries_left : Relocations → List RelocationEntry
entries_left r = entries_from (relocations_is r) r.indexes.start (r.indexes.end - r.indexes.start)
