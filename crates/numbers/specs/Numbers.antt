-- Numbers by their width, signed ones, initial lengths, and the sizes and sums of addresses.
use Rattle.std.specs.Prelude.{ℕ, ◌+◌, ◌-◌, ◌*◌, ◌^◌, if◌then◌else◌, ℤ, pos, ◌-ℤ◌, ◌==◌, nat_le, nat_lt}
use Rattle.readers.specs.declared.common.Format.{Format}
use Rattle.readers.specs.Outcome.{Outcome, answer, fault_of}
use Rattle.readers.specs.Reading.{Meaning, Step, step_then, gives, refuses, fixed_number, word, is_size}
use Rattle.readers.specs.Links.{format_word}

-- the number that n bytes stand for in two's complement, by the unsigned number that they spell
abbrev pub signed_of : ℕ → ℕ → ℤ
signed_of n v = pos v -ℤ pos (if nat_lt v (2 ^ (8 * n - 1)) then 0 else 2 ^ (8 * n))

-- a signed number of n bytes
abbrev pub signed_number : ℕ → Meaning → Step ℤ
signed_number n m = step_then (fixed_number n m) (λ v a. gives (signed_of n v) a)

-- an unsigned number of n bytes, which are at most 8
abbrev pub uint : ℕ → Meaning → Step ℕ
uint n m = if nat_le n 8 then fixed_number n m else refuses 14 n m

-- an initial length, and how many bytes the words have in the format that it shows
pub record Initial : Type 0 where
  pub length : ℕ
  pub word : ℕ

-- A value of 4 bytes below 0xfffffff0 is the length, in the 32-bit format. 0xffffffff says that a length of 8 bytes
-- follows, in the 64-bit format. The others are kept for later use.
abbrev pub initial : ℕ → Meaning → Step Initial
initial limit m =
    step_then (fixed_number 4 m) (λ v a.
    if nat_lt v 0xffff_fff0 then gives (record { length = v; word = 4 }) a
    else (if v == 0xffff_ffff
    then (step_then (word limit 8 a) (λ l b. gives (record { length = l; word = 8 }) b))
    else refuses 2 v a))

-- the size of an address, one byte
abbrev pub size_of_addresses : Meaning → Step ℕ
size_of_addresses m =
    step_then (fixed_number 1 m) (λ s a. if is_size s then gives s a else refuses 4 s a)

-- a length with its format, as code answers it
abbrev pub initial_is : {A : Type 0} → (A → ℕ) → A × Format → Initial
initial_is f p = record { length = f p.0; word = format_word p.1 }

-- what holds of addresses of s bytes, and the fault of a size that is none
abbrev pub of_size : ℕ → Outcome ℕ → Outcome ℕ
of_size s o = if is_size s then o else fault_of 4 s

-- the largest address
abbrev pub ones : ℕ → Outcome ℕ
ones s = of_size s (answer (2 ^ (8 * s) - 1))

-- the least of those that stand for code which is not there
abbrev pub tombstone : ℕ → Outcome ℕ
tombstone s = of_size s (answer (2 ^ (8 * s) - 2))

-- an address plus a length
abbrev pub address_sum : ℕ → ℕ → ℕ → Outcome ℕ
address_sum a l s =
    of_size s (if nat_lt (a + l) (2 ^ (8 * s)) then answer (a + l) else fault_of 10 0)
