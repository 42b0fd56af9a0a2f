-- Numbers in the bytes of a file.
use Rattle.std.specs.Prelude.{ℕ, ◌+◌, Bool, ◌&&◌, List, length, Option, Some, None, nat_le, if◌then◌else◌}
use Rattle.readers.specs.Reading.{spelt_number}
use Rattle.readers.specs.Sections.{part}

-- bytes, whether the highest byte of a number comes first, and how many bytes a word has: an
-- address, an offset or a size
pub record Words : Type 0 where
  pub bytes : List ℕ
  pub big : Bool
  pub word : ℕ

abbrev pub words_by : List ℕ → Bool → ℕ → Words
words_by bs b n = record { bytes = bs; big = b; word = n }

-- whether the n bytes from a place on lie within the bytes
abbrev pub has_bytes : Words → ℕ → ℕ → Bool
has_bytes w at n = nat_le (at + n) (length w.bytes)

-- the number of n bytes at a place
abbrev pub number_at : Words → ℕ → ℕ → ℕ
number_at w at n = spelt_number w.big (part at n w.bytes)

-- the same of at most 8 bytes, where the bytes do not end before it does
abbrev pub uint_or : Words → ℕ → ℕ → Option ℕ
uint_or w at n = if has_bytes w at n && nat_le n 8 then Some (number_at w at n) else None

-- the word at a place
abbrev pub word_at : Words → ℕ → ℕ
word_at w at = number_at w at w.word
