-- The records of a section: what all relocation entries for it make, one after another.
use Rattle.std.specs.Prelude.{ℕ, Bool, true, false, not, ◌&&◌, ◌||◌, List, [], ◌∷◌, ◌++◌, map, filter, Option, Some, None, Ok, Err, Result, is_some, ◌==◌, if◌then◌else◌}
use Rattle.std.specs.List.{list_any}
use Rattle.std.specs.Option.{option_map_or}
use Rattle.elf.specs.declared.file.FileKind.{FileKind}
use Rattle.elf.specs.declared.file.FileKind.TheVariants.{Relocatable}
use Rattle.elf.specs.declared.relocation.RelocationEntry.{RelocationEntry}
use Rattle.elf.specs.declared.section.Section.{Section}
use Rattle.elf.specs.declared.section.SectionKind.{SectionKind}
use Rattle.elf.specs.declared.section.SectionKind.TheVariants.{Crel}
use Rattle.elf.specs.Results.{only_if, result_then, result_then_from, result_is}
use Rattle.elf.specs.Files.{File, section_or, data_of, all_sections}
use Rattle.elf.specs.Symbols.{symbols_of}
use Rattle.elf.specs.Relocations.{addends_of, relocations_of}
use Rattle.elf_relocations.specs.declared.error.RelocationError.{RelocationError}
use Rattle.elf_relocations.specs.declared.error.RelocationError.TheVariants.{Elf, AddWithoutSub, SubWithoutAdd, TwoRelocations, CompactRelocations}
use Rattle.elf_relocations.specs.declared.action.Action.{Action}
use Rattle.elf_relocations.specs.declared.action.Action.TheVariants.{Nothing, Absolute, Add, Sub}
use Rattle.elf_relocations.specs.declared.record.Applied.{Applied}
use Rattle.elf_relocations.specs.declared.record.Waiting.{Waiting}
use Rattle.elf_relocations.specs.Records.{Source, action_or, address_record, pair_record}

-- the records that entries have made, and the last entry if it adds an address and waits for the
-- next to subtract one
pub record Builder : Type 0 where
  pub records : List Applied
  pub waiting : Option Waiting

abbrev pub builder_by : List Applied → Option Waiting → Builder
builder_by rs w = record { records = rs; waiting = w }

abbrev pub no_records : Builder
no_records = builder_by [] None

-- one record more, and nothing waits
abbrev pub with_record : Builder → Applied → Builder
with_record b r = builder_by (b.records ++ r ∷ []) None

-- an entry more by what it does
abbrev pub with_action : Source → Builder → RelocationEntry → Action
    → Result Builder RelocationError
with_action s b e Nothing = Ok b
with_action s b e (Absolute w) = result_is (with_record b) (address_record s e w)
with_action s b e (Add w) = Ok (builder_by b.records (Some (record { entry = e; width = w })))
with_action s b e (Sub w) = Err (SubWithoutAdd e.offset)

-- an entry more: the second of a pair, where the one before waits for it
abbrev pub with_entry : Source → Builder → RelocationEntry → Result Builder RelocationError
with_entry s b e =
    option_map_or (λ add. result_is (with_record b) (pair_record s add e)) b.waiting
    (result_then (action_or s e) (with_action s b e))

abbrev pub with_entries : Source → Builder → List RelocationEntry → Result Builder RelocationError
with_entries s b [] = Ok b
with_entries s b (e ∷ es) = result_then (with_entry s b e) (λ c. with_entries s c es)

-- at the end of a relocation section no entry may wait
abbrev pub builder_at_end : Builder → Result Builder RelocationError
builder_at_end b = option_map_or (λ add. Err (AddWithoutSub add.entry.offset)) b.waiting (Ok b)

-- whether entries are in the compact form, which is not read
abbrev pub is_compact : SectionKind → Bool
is_compact Crel = true
is_compact _ = false

-- the entries of a relocation section, whose link is the table of their symbols, for a section with
-- some bytes
abbrev pub with_section : File → List ℕ → Builder → Section → Result Builder RelocationError
with_section f bytes b s =
    only_if (not (is_compact s.kind)) (CompactRelocations s.index)
    (result_then_from Elf (section_or f s.link) (λ t.
    result_then_from Elf (symbols_of f t) (λ y.
    result_then_from Elf (relocations_of f s) (λ es.
    let source : Source = record { file = f; bytes = bytes; symbols = y } in
    result_then (with_entries source b es) builder_at_end))))

abbrev pub with_sections : File → List ℕ → Builder → List Section → Result Builder RelocationError
with_sections f bytes b [] = Ok b
with_sections f bytes b (s ∷ ss) =
    result_then (with_section f bytes b s) (λ c. with_sections f bytes c ss)

-- whether a section has relocations of the section with an index
abbrev pub relocates : ℕ → Section → Bool
relocates target s = (is_some (addends_of s.kind) || is_compact s.kind) && s.info == target

-- the first of some offsets that was seen before it
abbrev pub first_repeat : List ℕ → List ℕ → Option ℕ
first_repeat seen [] = None
first_repeat seen (o ∷ os) =
    if list_any (λ x. x == o) seen then Some o else first_repeat (o ∷ seen) os

-- records no two of which are for one place
abbrev pub distinct_records : List Applied → Result (List Applied) RelocationError
distinct_records rs =
    let repeated = first_repeat [] (map (λ r. r.relocation.offset) rs) in
    option_map_or (λ o. Err (TwoRelocations o)) repeated (Ok rs)

-- whether a file is not linked yet
abbrev pub is_object : FileKind → Bool
is_object Relocatable = true
is_object _ = false

-- the records of the section with an index: those that its relocation sections make, one after
-- another; a file that is linked has none
abbrev pub table_of : File → ℕ → Result (List Applied) RelocationError
table_of f target =
    if is_object f.kind then
    result_then_from Elf (section_or f target) (λ s.
    result_then_from Elf (data_of f s) (λ bytes.
    let sections = filter (relocates target) (all_sections f) in
    result_then (with_sections f bytes no_records sections) (λ b. distinct_records b.records)))
    else Ok []
