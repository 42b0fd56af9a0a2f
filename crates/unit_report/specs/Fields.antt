-- The fields of a section whose ids are places in it: the numbers that are read of it; and whether each
-- relocation is of one of them.
use Rattle.std.specs.Prelude.{ℕ, zero, suc, ◌-◌, ◌*◌, ◌/◌, Bool, false, ◌&&◌, not, List, [], ◌∷◌, Option, Some, None, Ok, Err, Result, find, nat_le, ◌==◌}
use Rattle.std.specs.List.{list_any}
use Rattle.readers.specs.Reading.{length_size}
use Rattle.aranges.specs.Answers.{Item, set, tuple, spoilt}
use Rattle.aranges.specs.Sets.{Header}
use Rattle.elf_relocations.specs.declared.record.Applied.{Applied}
use Rattle.elf_relocations.specs.Actions.{bytes_of}
use Rattle.elf_relocations.specs.Records.{wrapping_add}
use Rattle.unit_report.specs.declared.fields.Field.{Field}
use Rattle.unit_report.specs.declared.refusal.Refusal.{Refusal}
use Rattle.unit_report.specs.declared.refusal.Refusal.TheVariants.{UnreadRelocation}

-- s bytes from place p on
abbrev pub field : ℕ → ℕ → Field
field p s = record { place = p; size = s }

-- the begin and the length of each of n tuples from place p on, where sums are modulo 2^64
abbrev pub tuple_fields : ℕ → ℕ → ℕ → List Field
tuple_fields zero p s = []
tuple_fields (suc n) p s =
    field p s ∷ field (wrapping_add p s) s ∷ tuple_fields n (wrapping_add p (2 * s)) s

-- the place behind a set's initial length
abbrev pub behind_length : Header → ℕ
behind_length h = wrapping_add h.place (length_size h.word)

-- the info offset, behind the version, and the tuples up to the set's end
abbrev pub set_fields : Header → List Field
set_fields h =
    let count = (wrapping_add (behind_length h) h.length - h.tuples.id) / (2 * h.size) in
    field (wrapping_add (behind_length h) 2) h.word ∷ tuple_fields count h.tuples.id h.size

-- whether a relocation is of a field, and changes all its bytes
abbrev pub is_of : Applied → Field → Bool
is_of r f = f.place == r.relocation.offset && f.size == bytes_of r.width

-- whether it is of a field of a set, or stands at or behind a header that can't be read
abbrev pub is_read_in : Applied → Item → Bool
is_read_in r (set h) = list_any (is_of r) (set_fields h)
is_read_in r (tuple a) = false
is_read_in r (spoilt p f) = nat_le p r.relocation.offset

abbrev pub is_read : List Item → Applied → Bool
is_read items r = list_any (is_read_in r) items

-- the first that is not is refused
abbrev pub unread_refusal : Option Applied → Result (Unit {0}) Refusal
unread_refusal (Some r) = Err (UnreadRelocation r.relocation.offset)
unread_refusal None = Ok tt

abbrev pub fields_check : List Item → List Applied → Result (Unit {0}) Refusal
fields_check items rs = unread_refusal (find (λ r. not (is_read items r)) rs)
