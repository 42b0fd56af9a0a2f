-- Hexadecimal digits, 0 to 9 and a to f, two to a byte.
use Rattle.std.specs.Prelude.{ℕ, ◌+◌, ◌-◌, ◌*◌, ◌/◌, ◌%◌, if◌then◌else◌, ◌&&◌, List, [], ◌∷◌, nat_le, nat_lt}

-- what a digit counts, and 0 for a byte that is none
abbrev pub digit_value : ℕ → ℕ
digit_value d =
    if nat_le 48 d && nat_le d 57 then d - 48
    else if nat_le 97 d && nat_le d 102 then d - 97 + 10
    else 0

-- the digit that counts n
abbrev pub digit : ℕ → ℕ
digit n = if nat_lt n 10 then 48 + n else 97 + (n - 10)

-- the bytes that pairs of digits count
abbrev pub bytes_from_hex : List ℕ → List ℕ
bytes_from_hex [] = []
bytes_from_hex (h ∷ []) = []
bytes_from_hex (h ∷ l ∷ ds) = (16 * digit_value h + digit_value l) ∷ bytes_from_hex ds

-- the digits of bytes
abbrev pub hex_of : List ℕ → List ℕ
hex_of [] = []
hex_of (b ∷ bs) = digit (b / 16) ∷ digit (b % 16) ∷ hex_of bs
