-- What a reader means, and for each call the outcome and the reader after it.
use Rattle.std.specs.Prelude.{ℕ, ◌+◌, ◌-◌, ◌*◌, Bool, if◌then◌else◌, ◌&&◌, ◌||◌, List, [], ◌∷◌, reverse, length, take, drop, Some, None, Option, ◌==◌, nat_le, nat_lt}
use Rattle.std.specs.List as list
use Rattle.readers.specs.Outcome.{Outcome, Fault, answer, fault, fault_of, fault_by}

-- A reader: the id of its next byte, the bytes left, whether the highest byte of a number comes first, and its
-- relocation, which says of the id and the value of an address or an offset what it becomes.
pub record Meaning : Type 0 where
  pub id : ℕ
  pub rest : List ℕ
  pub big : Bool
  pub address : ℕ → ℕ → Outcome ℕ
  pub offset : ℕ → ℕ → Outcome ℕ

-- the relocation that changes nothing
abbrev pub no_relocation : ℕ → ℕ → Outcome ℕ
no_relocation i v = answer v

-- a reader without relocation
abbrev pub plain_reader : ℕ → List ℕ → Bool → Meaning
plain_reader i bs b =
    record { id = i; rest = bs; big = b; address = no_relocation; offset = no_relocation }

-- the same reader with other bytes at another id
abbrev pub at : ℕ → List ℕ → Meaning → Meaning
at i bs m = record { id = i; rest = bs; big = m.big; address = m.address; offset = m.offset }

-- past the next n bytes
abbrev pub past : ℕ → Meaning → Meaning
past n m = at (m.id + n) (drop n m.rest) m

-- with only the next n bytes
abbrev pub front : ℕ → Meaning → Meaning
front n m = at m.id (take n m.rest) m

-- with no bytes
abbrev pub no_bytes : Meaning → Meaning
no_bytes m = at m.id [] m

-- what a call does: its outcome, and the reader that it leaves
pub record Step (A : Type 0) : Type 0 where
  pub outcome : Outcome A
  pub after : Meaning

-- an answer, and the reader after it
abbrev pub gives : {A : Type 0} → A → Meaning → Step A
gives x m = record { outcome = answer x; after = m }

-- a fault by its number and payload, and the reader after it
abbrev pub refuses : {A : Type 0} → ℕ → ℕ → Meaning → Step A
refuses n p m = record { outcome = fault_of n p; after = m }

-- one step after another, up to the first fault
abbrev pub step_then : {A B : Type 0} → Step A → (A → Meaning → Step B) → Step B
step_then s f =
    elim s.outcome
    [ answer x ↦ f x s.after | fault e ↦ record { outcome = fault e; after = s.after } ]

-- the step s, which takes n bytes; where fewer are left, fault 1 with the reader's id, and nothing is taken
abbrev pub byte_step : {A : Type 0} → ℕ → Meaning → Step A → Step A
byte_step n m s = if nat_le n (length m.rest) then s else refuses 1 m.id m

-- past n bytes
abbrev pub skip_step : ℕ → Meaning → Step (Unit {0})
skip_step n m = byte_step n m (gives tt (past n m))

-- n bytes and no more are left
abbrev pub truncate_step : ℕ → Meaning → Step (Unit {0})
truncate_step n m = byte_step n m (gives tt (front n m))

-- n bytes as a reader of their own, and past them
abbrev pub split_step : ℕ → Meaning → Step Meaning
split_step n m = byte_step n m (gives (front n m) (past n m))

-- n bytes as a list, and past them
abbrev pub copy_step : ℕ → Meaning → Step (List ℕ)
copy_step n m = byte_step n m (gives (take n m.rest) (past n m))

-- the number of bytes in front of the first b, which is refused where there is none
abbrev pub position : ℕ → Meaning → Outcome ℕ
position b m =
    elim (list.position (λ x. x == b) m.rest) [ Some n ↦ answer n | None ↦ fault_of 1 m.id ]

-- the distance of an id from the reader's own, where it lies in the reader's span with both ends
abbrev pub distance : Meaning → ℕ → Option ℕ
distance m i = if nat_le m.id i && nat_le i (m.id + length m.rest) then Some (i - m.id) else None

-- the distance of a reader from a base whose span holds the reader's
abbrev pub distance_within : Meaning → Meaning → Option ℕ
distance_within m base =
    if nat_le base.id m.id && nat_le (m.id + length m.rest) (base.id + length base.rest)
    then Some (m.id - base.id)
    else None

-- the number that bytes spell, the lowest first
abbrev pub little : List ℕ → ℕ
little [] = 0
little (b ∷ bs) = b + 256 * little bs

-- the same in either order
abbrev pub spelt_number : Bool → List ℕ → ℕ
spelt_number big bs = if big then little (reverse bs) else little bs

-- an unsigned number of n bytes
abbrev pub fixed_number : ℕ → Meaning → Step ℕ
fixed_number n m = byte_step n m (gives (spelt_number m.big (take n m.rest)) (past n m))

-- whether a number is the size of an address or of an offset
abbrev pub is_size : ℕ → Bool
is_size s = s == 1 || (s == 2 || (s == 4 || s == 8))

-- an unsigned number of 1, 2, 4 or 8 bytes; another size has the fault f
abbrev pub sized_number_or : Fault → ℕ → Meaning → Step ℕ
sized_number_or f s m =
    if is_size s then fixed_number s m else record { outcome = fault f; after = m }

-- the same, where the fault has the number f and tells the size
abbrev pub sized_number : ℕ → ℕ → Meaning → Step ℕ
sized_number f s m = sized_number_or (fault_by f s) s m

-- a number that an offset can hold; limit, here and in all files, is the first number that no offset stands for
abbrev pub offset_number : ℕ → ℕ → Outcome ℕ
offset_number limit n = if nat_lt n limit then answer n else fault_of 6 0

-- the same, once the number is read
abbrev pub offset_step : ℕ → ℕ → Meaning → Step ℕ
offset_step limit n m = record { outcome = offset_number limit n; after = m }

-- what a relocation says of the value that was read at the reader `from`, once its bytes are taken
abbrev pub relocation_step : (ℕ → ℕ → Outcome ℕ) → Meaning → ℕ → Meaning → Step ℕ
relocation_step f from n m = record { outcome = f from.id n; after = m }

-- an address of s bytes
abbrev pub address : ℕ → Meaning → Step ℕ
address s m = step_then (sized_number 4 s m) (relocation_step m.address m)

-- a word of w bytes, 4 or 8 by the format
abbrev pub word : ℕ → ℕ → Meaning → Step ℕ
word limit w m = step_then (fixed_number w m) (offset_step limit)

-- an offset of the format's width
abbrev pub offset : ℕ → ℕ → Meaning → Step ℕ
offset limit w m = step_then (word limit w m) (relocation_step m.offset m)

-- an offset of s bytes before relocation
abbrev pub sized_word : ℕ → ℕ → Meaning → Step ℕ
sized_word limit s m = step_then (sized_number 7 s m) (offset_step limit)

-- an offset of s bytes
abbrev pub sized_offset : ℕ → ℕ → Meaning → Step ℕ
sized_offset limit s m = step_then (sized_word limit s m) (relocation_step m.offset m)

-- how many bytes an initial length takes where words have w bytes: before one of 8 stand 4 that tell the format
abbrev pub length_size : ℕ → ℕ
length_size w = if w == 4 then 4 else 12
