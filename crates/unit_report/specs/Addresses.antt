-- The address that a word names.
use Rattle.std.specs.Prelude.{ℕ, ◌+◌, ◌-◌, ◌*◌, ◌^◌, if◌then◌else◌, ◌&&◌, ◌||◌, List, [], ◌∷◌, length, drop, Option, Some, None, Result, Ok, Err, ◌==◌, nat_le, nat_lt, slice_index}
use Rattle.unit_report.specs.declared.address.AddressError.{AddressError}
use Rattle.unit_report.specs.declared.address.AddressError.TheVariants.{NotHexadecimal, TooLarge}
use Rattle.elf.specs.Results.{result_then}

-- the digit that a byte writes: 0 to 9, a to f, A to F
abbrev pub digit_of : ℕ → Option ℕ
digit_of c =
    if nat_le 48 c && nat_le c 57 then Some (c - 48)
    else if nat_le 97 c && nat_le c 102 then Some (c - 97 + 10)
    else if nat_le 65 c && nat_le c 70 then Some (c - 65 + 10) else None

-- a number with a digit more, which has to stay below 2^64
abbrev pub with_value : ℕ → Option ℕ → Result ℕ AddressError
with_value n (Some d) = if nat_lt n (2 ^ 60) then Ok (n * 16 + d) else Err TooLarge
with_value n None = Err NotHexadecimal

abbrev pub with_digit : ℕ → ℕ → Result ℕ AddressError
with_digit n c = with_value n (digit_of c)

-- the number that digits make behind the number so far; the first digit at which that fails decides
abbrev pub number_from : ℕ → List ℕ → Result ℕ AddressError
number_from n [] = Ok n
number_from n (c ∷ cs) = result_then (with_digit n c) (λ v. number_from v cs)

-- what stands behind 0x or 0X, or the whole word where it does not begin so
abbrev pub digits_of : List ℕ → List ℕ
digits_of word =
    if slice_index word 0 == 48 && (slice_index word 1 == 120 || slice_index word 1 == 88)
    then drop 2 word
    else word

-- a word names an address by one digit or more
abbrev pub address_of : List ℕ → Result ℕ AddressError
address_of word =
    if length (digits_of word) == 0 then Err NotHexadecimal else number_from 0 (digits_of word)
