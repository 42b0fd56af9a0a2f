-- A section in memory: its parts, its ids, and what opening it gives.
use Rattle.std.specs.Prelude.{ℕ, ◌-◌, ◌^◌, Bool, if◌then◌else◌, List, take, drop}
use Rattle.readers.specs.Outcome.{Outcome, answer, fault_of}
use Rattle.readers.specs.Reading.{Meaning, plain_reader}

-- the bytes from a place on, at most n of them
abbrev pub part : ℕ → ℕ → List ℕ → List ℕ
part first n section = take n (drop first section)

-- the highest id
abbrev pub highest_id : ℕ
highest_id = 2 ^ 64 - 1

-- what opening a section gives, where the ids and the offsets can name all of it
abbrev pub section_opening : Bool → ℕ → List ℕ → Bool → Outcome Meaning
section_opening fits base section big =
    if fits then answer (plain_reader base section big) else fault_of 11 0
