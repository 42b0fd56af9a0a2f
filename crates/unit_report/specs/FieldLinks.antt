-- What the code's fields tell of a relocation.
use Rattle.std.specs.Prelude.{◌≡◌, ℕ, Bool, false, ◌||◌, Option, Some, None, nat_le}
use Rattle.std.specs.List.{list_any}
use Rattle.std.specs.Bool.{OnFalse}
use Rattle.aranges.specs.Answers.{Item}
use Rattle.elf_relocations.specs.declared.record.Applied.{Applied}
use Rattle.unit_report.specs.declared.fields.Fields.{Fields}
use Rattle.unit_report.specs.Fields.{is_of, is_read_in}

-- whether a place is at or behind an end
abbrev pub is_behind : Option ℕ → ℕ → Bool
is_behind (Some p) o = nat_le p o
is_behind None o = false

-- whether a relocation is read, by the fields so far
abbrev pub is_known : Fields → Applied → Bool
is_known f r = is_behind f.end r.relocation.offset || list_any (is_of r) f.known.keys

-- an item more, unless memory is short
abbrev pub Learns : Fields → Item → Bool → Fields → Type 0
Learns before x stops after =
    OnFalse stops ((r : Applied) → is_known after r ≡ (is_known before r || is_read_in r x))
