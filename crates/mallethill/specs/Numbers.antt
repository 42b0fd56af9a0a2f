-- What C is told of a row of unsigned LEB128 numbers.
use Rattle.std.specs.Prelude.{ℕ, zero, suc, if◌then◌else◌, List, length, ◌==◌, false}
use Rattle.readers.specs.Outcome.{answer, fault}
use Rattle.readers.specs.Reading.{Meaning, plain_reader}
use Rattle.leb128.specs.Leb128.{unsigned_leb128}
use Rattle.mallethill.specs.declared.uleb128.NumbersRead.{NumbersRead}
use Rattle.mallethill.specs.Told.{no_fault, c_fault}
use Rattle.mallethill.specs.Rows.{Row, ended_at, with_item}

-- from the reader on, while bytes are left, and at most n numbers; the id of a section's first byte is 0
abbrev pub row : ℕ → Meaning → Row ℕ
row zero m = ended_at m.id no_fault
row (suc n) m =
    if length m.rest == 0 then ended_at m.id no_fault
    else
    (elim (unsigned_leb128 m).outcome
    [ answer x ↦ with_item x (row n (unsigned_leb128 m).after) | fault f ↦ ended_at m.id (c_fault f) ])

-- in bytes, with room for n numbers
abbrev pub row_of : List ℕ → ℕ → Row ℕ
row_of bytes n = row n (plain_reader 0 bytes false)

-- how many numbers and bytes they are
abbrev pub numbers_read : Row ℕ → NumbersRead
numbers_read r = record { count = length r.items; taken = r.place }
