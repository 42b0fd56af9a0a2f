-- What the entries of a relocation section make of their places.
use Rattle.std.specs.Prelude.{ℕ, ◌+◌, ◌-◌, ◌%◌, ◌^◌, Bool, false, true, List, Option, Some, None, Ok, Err, Result, is_some, unwrap_or, ok_or, nat_eq, ◌==◌, if◌then◌else◌}
use Rattle.std.specs.Option.{option_eq}
use Rattle.relocate.specs.declared.record.RelocationKind.TheVariants as kind
use Rattle.elf.specs.declared.relocation.RelocationEntry.{RelocationEntry}
use Rattle.elf.specs.declared.symbol.SymbolPlace.{SymbolPlace}
use Rattle.elf.specs.declared.symbol.SymbolPlace.TheVariants as place
use Rattle.elf.specs.Results.{only_if, result_then, result_then_from}
use Rattle.elf.specs.Kinds.{machine_of}
use Rattle.elf.specs.Words.{uint_or}
use Rattle.elf.specs.Files.{File, section_or, words_in}
use Rattle.elf.specs.Symbols.{Table, symbol_or}
use Rattle.elf_relocations.specs.declared.error.RelocationError.{RelocationError}
use Rattle.elf_relocations.specs.declared.error.RelocationError.TheVariants.{Elf, UnknownMachine, UnsupportedRelocation, SymbolWithoutAddress, AddWithoutSub, DifferentSections, OutsideSection}
use Rattle.elf_relocations.specs.declared.action.Width.{Width}
use Rattle.elf_relocations.specs.declared.action.Width.TheVariants.{Four, Eight}
use Rattle.elf_relocations.specs.declared.action.Action.{Action}
use Rattle.elf_relocations.specs.declared.action.Action.TheVariants.{Sub}
use Rattle.elf_relocations.specs.declared.record.Applied.{Applied}
use Rattle.elf_relocations.specs.declared.record.Target.{Target}
use Rattle.elf_relocations.specs.declared.record.Waiting.{Waiting}
use Rattle.elf_relocations.specs.Actions.{action_of, bytes_of, low_part}

-- what the entries of one relocation section are read by: the file, the bytes of the section that
-- they are for, and the symbols that they name
pub record Source : Type 0 where
  pub file : File
  pub bytes : List ℕ
  pub symbols : Table

abbrev pub target_by : ℕ → Option ℕ → Target
target_by a s = record { address = a; section = s }

-- sums and differences of addresses are taken modulo 2^64
abbrev pub wrapping_add : ℕ → ℕ → ℕ
wrapping_add a b = (a + b) % 2 ^ 64

abbrev pub wrapping_sub : ℕ → ℕ → ℕ
wrapping_sub a b = (a + (2 ^ 64 - b)) % 2 ^ 64

-- what a symbol's place makes of a value: in a section the section's address is added
abbrev pub target_in : File → RelocationEntry → ℕ → SymbolPlace → Result Target RelocationError
target_in f e v (place.Section i) =
    result_then_from Elf (section_or f i) (λ s. Ok (target_by (wrapping_add v s.address) (Some i)))
target_in f e v place.Absolute = Ok (target_by v None)
target_in f e v _ = Err (SymbolWithoutAddress e.symbol e.offset)

-- the place that an entry names; where it has no addend, 0 is added
abbrev pub target_of : Source → RelocationEntry → Result Target RelocationError
target_of s e =
    result_then_from Elf (symbol_or s.symbols e.symbol) (λ y.
    target_in s.file e (wrapping_add y.value (unwrap_or e.addend 0)) y.place)

-- what an entry does
abbrev pub action_or : Source → RelocationEntry → Result Action RelocationError
action_or s e =
    let number = s.file.machine in
    result_then (ok_or (machine_of number) (UnknownMachine number)) (λ m.
    ok_or (action_of m e.kind) (UnsupportedRelocation m e.kind e.offset))

-- the number that stands at a place, which has to lie within the section
abbrev pub standing_number : Source → ℕ → Width → Result ℕ RelocationError
standing_number s o w =
    ok_or (uint_or (words_in s.file s.bytes) o (bytes_of w)) (OutsideSection o)

-- the record that puts at an offset what the width keeps of a number
abbrev pub replacement_at : ℕ → Width → ℕ → Option ℕ → Applied
replacement_at o w n s =
    record {
      relocation = record { offset = o; kind = kind.Replace; amount = low_part w n };
      section = s;
      width = w;
    }

-- the record of an address, with the number that stands at its place added if the entry has no
-- addend
abbrev pub address_record : Source → RelocationEntry → Width → Result Applied RelocationError
address_record s e w =
    result_then (target_of s e) (λ t.
    result_then (standing_number s e.offset w) (λ n.
    let address = if is_some e.addend then t.address else wrapping_add t.address n in
    Ok (replacement_at e.offset w address t.section)))

-- whether an action subtracts at a width
abbrev pub subtracts : Width → Action → Bool
subtracts Four (Sub Four) = true
subtracts Eight (Sub Eight) = true
subtracts w a = false

-- the record of the distance between two places of one section, or of none, with the number that
-- stands at the offset added
abbrev pub distance_record : Source → Waiting → Target → Target → Result Applied RelocationError
distance_record s add end start =
    let o = add.entry.offset in
    let distance = wrapping_sub end.address start.address in
    only_if (option_eq nat_eq end.section start.section) (DifferentSections o)
    (result_then (standing_number s o add.width) (λ n.
    Ok (replacement_at o add.width (wrapping_add distance n) end.section)))

-- the record of an entry that adds and the next one, which has to subtract at the same place
abbrev pub pair_record : Source → Waiting → RelocationEntry → Result Applied RelocationError
pair_record s add sub =
    let unpaired = AddWithoutSub add.entry.offset in
    only_if (sub.offset == add.entry.offset) unpaired
    (result_then (action_or s sub) (λ a.
    only_if (subtracts add.width a) unpaired
    (result_then (target_of s add.entry) (λ end.
    result_then (target_of s sub) (λ start.
    distance_record s add end start)))))
