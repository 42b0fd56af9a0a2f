-- The entries of the section table.
use Rattle.std.specs.Prelude.{ℕ, ◌+◌, ◌*◌, ◌/◌, ◌%◌, ◌^◌, Bool, true, false, ◌==◌}
use Rattle.elf.specs.declared.section.Section.{Section}
use Rattle.elf.specs.declared.section.SectionKind.{SectionKind}
use Rattle.elf.specs.declared.section.SectionKind.TheVariants.{SymbolTable, DynamicSymbols, SymbolTableSections, NoBits}
use Rattle.elf.specs.Words.{Words, number_at, word_at}
use Rattle.elf.specs.Kinds.{section_kind_of}

-- how many bytes an entry takes, by the width of words
abbrev pub section_size : ℕ → ℕ
section_size word = 16 + 6 * word

-- the section of an index, whose entry is at a place
abbrev pub section_entry : Words → ℕ → ℕ → Section
section_entry w i at =
    record {
      index = i;
      name = number_at w at 4;
      kind = section_kind_of (number_at w (at + 4) 4);
      flags = word_at w (at + 8);
      address = word_at w (at + 8 + w.word);
      offset = word_at w (at + 8 + 2 * w.word);
      size = word_at w (at + 8 + 3 * w.word);
      link = number_at w (at + 8 + 4 * w.word) 4;
      info = number_at w (at + 12 + 4 * w.word) 4;
      entry_size = word_at w (at + 16 + 5 * w.word);
    }

-- bit 11 of the flags says that a section is compressed
abbrev pub is_compressed : Section → Bool
is_compressed s = s.flags / 2 ^ 11 % 2 == 1

-- whether a section of the kind takes bytes in the file
abbrev pub is_in_file : SectionKind → Bool
is_in_file NoBits = false
is_in_file _ = true

abbrev pub is_symbol_table : SectionKind → Bool
is_symbol_table SymbolTable = true
is_symbol_table DynamicSymbols = true
is_symbol_table _ = false

-- whether it has the sections of symbols
abbrev pub has_sections_of_symbols : SectionKind → Bool
has_sections_of_symbols SymbolTableSections = true
has_sections_of_symbols _ = false
