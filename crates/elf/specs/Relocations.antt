-- Relocation sections, and the entries in them.
use Rattle.std.specs.Prelude.{ℕ, ◌+◌, ◌-◌, ◌*◌, ◌/◌, ◌%◌, ◌^◌, Bool, true, false, ◌&&◌, List, length, map, Ok, Result, Option, Some, None, ok_or, ◌==◌, nat_lt, if◌then◌else◌}
use Rattle.std.specs.List.{range_with_len}
use Rattle.elf.specs.declared.error.ElfError.{ElfError}
use Rattle.elf.specs.declared.error.ElfError.TheVariants.{NoRelocations, RelocationEntrySize, RelocationCutOff}
use Rattle.elf.specs.declared.machine.Machine.{Machine}
use Rattle.elf.specs.declared.machine.Machine.TheVariants.{Mips}
use Rattle.elf.specs.declared.section.Section.{Section}
use Rattle.elf.specs.declared.section.SectionKind.{SectionKind}
use Rattle.elf.specs.declared.section.SectionKind.TheVariants.{Rela, Rel}
use Rattle.elf.specs.declared.relocation.RelocationEntry.{RelocationEntry}
use Rattle.elf.specs.Results.{only_if, result_then}
use Rattle.elf.specs.Words.{Words, number_at, word_at, words_by}
use Rattle.elf.specs.Kinds.{machine_of}
use Rattle.elf.specs.Files.{File, data_of, words_in}

-- the bytes of a relocation section, whether its entries have addends, and whether they are laid
-- out as those of 64-bit MIPS
pub record Entries : Type 0 where
  pub words : Words
  pub addends : Bool
  pub mips64 : Bool

-- an entry has an offset, what is done with which symbol, and maybe an addend, a word each
abbrev pub relocation_size : ℕ → Bool → ℕ
relocation_size word addends = (if addends then 3 else 2) * word

-- a number's part above the low bits, and the low bits
abbrev pub parts_at_bit : ℕ → ℕ → ℕ × ℕ
parts_at_bit bit n = (n / 2 ^ bit, n % 2 ^ bit)

-- The second word of an entry, at a place, has the index of the symbol above the kind, which takes
-- 8 bits of 32, and 32 of 64. In 64-bit MIPS the symbol has the first 4 bytes, and each of the next
-- 4 says a part of the kind, the last one first: their highest byte comes first in either order.
abbrev pub symbol_and_kind : Entries → ℕ → ℕ × ℕ
symbol_and_kind r at =
    let w = r.words in
    if w.word == 4 then parts_at_bit 8 (number_at w at 4)
    else (if r.mips64 then (number_at w at 4, number_at (words_by w.bytes true w.word) (at + 4) 4)
    else parts_at_bit 32 (number_at w at 8))

-- a number of 32 bits in two's complement as one of 64 bits
abbrev pub sign_extension : ℕ → ℕ
sign_extension n = if nat_lt n (2 ^ 31) then n else n + (2 ^ 64 - 2 ^ 32)

-- the third word of an entry, at a place
abbrev pub addend_at : Entries → ℕ → Option ℕ
addend_at r at =
    let number = number_at r.words at r.words.word in
    if r.addends then Some (if r.words.word == 4 then sign_extension number else number) else None

-- the entry of an index
abbrev pub entry_in : Entries → ℕ → RelocationEntry
entry_in r i =
    let at = i * relocation_size r.words.word r.addends in
    let info = symbol_and_kind r (at + r.words.word) in
    record {
      offset = word_at r.words at;
      symbol = info.0;
      kind = info.1;
      addend = addend_at r (at + 2 * r.words.word);
    }

-- n entries from an index on
abbrev pub entries_from : Entries → ℕ → ℕ → List RelocationEntry
entries_from r i n = map (entry_in r) (range_with_len i n)

-- whether the entries of a section have addends, where it has entries
abbrev pub addends_of : SectionKind → Option Bool
addends_of Rela = Some true
addends_of Rel = Some false
addends_of _ = None

abbrev pub is_mips : Option Machine → Bool
is_mips (Some Mips) = true
is_mips _ = false

-- whether a file's entries have the shape of 64-bit MIPS
abbrev pub is_mips64 : File → Bool
is_mips64 f = is_mips (machine_of f.machine) && f.words.word == 8

abbrev pub entries_by : File → Bool → List ℕ → Entries
entries_by f addends bytes =
    record { words = words_in f bytes; addends = addends; mips64 = is_mips64 f }

-- the entries of a relocation section
abbrev pub relocations_of : File → Section → Result (List RelocationEntry) ElfError
relocations_of f s =
    result_then (ok_or (addends_of s.kind) (NoRelocations s.index)) (λ addends.
    let size = relocation_size f.words.word addends in
    only_if (s.entry_size == size) (RelocationEntrySize s.entry_size)
    (result_then (data_of f s) (λ bytes.
    only_if (length bytes % size == 0) (RelocationCutOff s.index)
    (Ok (entries_from (entries_by f addends bytes) 0 (length bytes / size))))))
