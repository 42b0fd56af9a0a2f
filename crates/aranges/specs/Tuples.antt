-- What one tuple of a set answers, by its bytes and place, the size of an address, the order and the relocation alone.
use Rattle.std.specs.Prelude.{ℕ, ◌+◌, ◌-◌, ◌*◌, ◌^◌, Bool, if◌then◌else◌, ◌&&◌, ◌==◌, nat_le, nat_lt}
use Rattle.readers.specs.Outcome.{Fault, answer, fault}
use Rattle.readers.specs.Reading.{Meaning, Step, past, address, step_then, gives}

-- a range of addresses, and the length that was read; end is 0 where it was not worked out
pub record Entry : Type 0 where
  pub begin : ℕ
  pub end : ℕ
  pub length : ℕ

-- the answers of next, and those of next raw
pub data Kind : Type 0 where
  converted : Kind
  raw : Kind

-- what one tuple answers: nothing, an entry, that its end passes the largest address, or what its read refused, which is
-- relocation's fault, or 4 for a size that is none; the last two are told apart whatever fault relocation gives
pub data Says : Type 0 where
  nothing : Says
  entry : Entry → Says
  overflow : Says
  refused : Fault → Says

-- a begin at or above 2^(8s) - 2 stands for code that was dropped; an end has to be below 2^(8s)
abbrev pub convert : ℕ → ℕ → ℕ → Says
convert s b l =
    if nat_le (2 ^ (8 * s) - 2) b then nothing
    else if nat_lt (b + l) (2 ^ (8 * s)) then entry (record { begin = b; end = b + l; length = l })
    else overflow

-- a null pair
abbrev pub is_null : ℕ → ℕ → Bool
is_null b l = b == 0 && l == 0

-- a begin and a length, once read
abbrev pub pair : Kind → ℕ → ℕ → ℕ → Says
pair raw s b l = if is_null b l then nothing else entry (record { begin = b; end = 0; length = l })
pair converted s b l = if is_null b l then nothing else convert s b l

-- the tuple at the front of a reader
abbrev pub tuple : Kind → ℕ → Meaning → Says
tuple k s m =
    elim (address s m).outcome [
      | answer b ↦ elim (address s (past s m)).outcome
          [ answer l ↦ pair k s b l | fault e ↦ refused e ]
      | fault e ↦ refused e
    ]

-- its two addresses, one after the other, and the reader after them
abbrev pub pair_step : ℕ → ℕ → Meaning → Step (ℕ × ℕ)
pair_step b l m = gives (b, l) m

abbrev pub second : ℕ → ℕ → Meaning → Step (ℕ × ℕ)
second s b m = step_then (address s m) (pair_step b)

abbrev pub two : ℕ → Meaning → Step (ℕ × ℕ)
two s m = step_then (address s m) (second s)

-- what next and next raw tell: an entry, a fault, or that there is none left
pub data Told : Type 0 where
  found : Entry → Told
  failed : Fault → Told
  over : Told
