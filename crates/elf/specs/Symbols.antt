-- Symbol tables, and the symbols in them.
use Rattle.std.specs.Prelude.{ℕ, ◌+◌, ◌*◌, ◌%◌, Bool, ◌&&◌, List, [], Ok, Result, ◌==◌, nat_le, find, slice_index, if◌then◌else◌}
use Rattle.std.specs.Option.{option_map_or}
use Rattle.elf.specs.declared.error.ElfError.{ElfError}
use Rattle.elf.specs.declared.error.ElfError.TheVariants.{NoSymbolTable, SymbolEntrySize, NoSymbol, NoSectionOfSymbol}
use Rattle.elf.specs.declared.section.Section.{Section}
use Rattle.elf.specs.declared.symbol.Symbol.{Symbol}
use Rattle.elf.specs.declared.symbol.SymbolPlace.{SymbolPlace}
use Rattle.elf.specs.declared.symbol.SymbolPlace.TheVariants as place
use Rattle.elf.specs.Results.{only_if, result_then}
use Rattle.elf.specs.Words.{Words, has_bytes, number_at, word_at}
use Rattle.elf.specs.Sections.{is_symbol_table, has_sections_of_symbols}
use Rattle.elf.specs.Files.{File, data_of, all_sections, words_in}

-- the entries of a table, and the sections of its symbols, 4 bytes each, where 16 bits are too few
-- for them
pub record Table : Type 0 where
  pub entries : Words
  pub sections : Words

-- how many bytes an entry takes, by the width of words
abbrev pub symbol_size : ℕ → ℕ
symbol_size word = 8 + 2 * word

-- whether a section has the sections of the symbols in a table, to whose index it then links
abbrev pub is_for_table : ℕ → Section → Bool
is_for_table table s = has_sections_of_symbols s.kind && s.link == table

-- the sections of a table's symbols, which stand in the first section that is for it
abbrev pub sections_of_symbols : File → Section → Result (List ℕ) ElfError
sections_of_symbols f table =
    option_map_or (data_of f) (find (is_for_table table.index) (all_sections f)) (Ok [])

-- the symbols of a section, whose entries are of the class
abbrev pub symbols_of : File → Section → Result Table ElfError
symbols_of f s =
    only_if (is_symbol_table s.kind) (NoSymbolTable s.index)
    (only_if (s.entry_size == symbol_size f.words.word) (SymbolEntrySize s.entry_size)
    (result_then (data_of f s) (λ entries.
    result_then (sections_of_symbols f s) (λ sections.
    Ok (record { entries = words_in f entries; sections = words_in f sections })))))

-- where a symbol is defined by the index of a section: 0 is that of none
abbrev pub place_in_section : ℕ → SymbolPlace
place_in_section n = if n == 0 then place.Undefined else place.Section n

-- the place that the table of sections tells, by the symbol's index
abbrev pub extended_place : Table → ℕ → Result SymbolPlace ElfError
extended_place t i =
    only_if (has_bytes t.sections (i * 4) 4) (NoSectionOfSymbol i)
    (Ok (place_in_section (number_at t.sections (i * 4) 4)))

-- where a symbol is defined, by its index and the number in its entry
abbrev pub place_or : Table → ℕ → ℕ → Result SymbolPlace ElfError
place_or t i n =
    if n == 0xfff1 then Ok place.Absolute
    else (if n == 0xfff2 then Ok place.Common
    else (if n == 0xffff then extended_place t i
    else (if nat_le 0xff00 n then Ok (place.Reserved n)
    else Ok (place_in_section n))))

-- where the byte is that has the kind, with the number of the place 2 bytes behind it
abbrev pub info_at : Words → ℕ → ℕ
info_at w at = at + (if w.word == 4 then 12 else 4)

-- the symbol of an index, whose entry is at a place
abbrev pub symbol_entry : Table → ℕ → ℕ → Result Symbol ElfError
symbol_entry t i at =
    let info = info_at t.entries at in
    result_then (place_or t i (number_at t.entries (info + 2) 2)) (λ p.
    Ok (record {
      value = word_at t.entries (at + t.entries.word);
      place = p;
      kind = slice_index t.entries.bytes info % 16;
    }))

abbrev pub symbol_or : Table → ℕ → Result Symbol ElfError
symbol_or t i =
    let size = symbol_size t.entries.word in
    only_if (has_bytes t.entries (i * size) size) (NoSymbol i) (symbol_entry t i (i * size))
