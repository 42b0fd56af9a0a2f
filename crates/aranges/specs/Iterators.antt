-- The two iterators: what each call of next answers, and what it leaves.
use Rattle.std.specs.Prelude.{ℕ, zero, suc, ◌-◌, ◌*◌, ◌/◌, if◌then◌else◌, length, Some, None, Option, ◌==◌}
use Rattle.readers.specs.Outcome.{answer, fault, fault_by}
use Rattle.readers.specs.Reading.{Meaning, Step, past, no_bytes, gives}
use Rattle.aranges.specs.Sets.{Header, set_step}
use Rattle.aranges.specs.Tuples.{Kind, Says, Told, found, failed, over, tuple, two, nothing, entry, overflow, refused}

-- the tuples left: the size of an address, and the reader at the first of them
pub record Left : Type 0 where
  pub size : ℕ
  pub tuples : Meaning

-- at a set's first tuple
abbrev pub entries_of : Header → Left
entries_of h = record { size = h.size; tuples = h.tuples }

-- how many tuples are left; a shorter end is none, and of size 0 there is none, since division by 0 gives 0
abbrev pub count : ℕ → Meaning → ℕ
count s m = length m.rest / (2 * s)

-- the first answer of a kind among n tuples, and the reader after it: past its tuple, or emptied by the fault of a read
-- or where there is no answer
abbrev pub first : Kind → ℕ → ℕ → Meaning → Told × Meaning
first k s zero m = (over, no_bytes m)
first k s (suc n) m =
    elim (tuple k s m) [
      | nothing ↦ first k s n (past (2 * s) m)
      | entry e ↦ (found e, past (2 * s) m)
      | overflow ↦ (failed (fault_by 10 0), past (2 * s) m)
      | refused f ↦ (failed f, no_bytes (two s m).after)
    ]

-- what next or next raw answers on the tuples left, and what is left then
abbrev pub draw : Kind → Left → Told × Left
draw k l =
    let r : Told × Meaning = first k l.size (count l.size l.tuples) l.tuples in
    (r.0, record { size = l.size; tuples = r.1 })

-- a fault empties the reader
abbrev pub or_empties : {A : Type 0} → Step A → Step (Option A)
or_empties s =
    elim s.outcome
    [ answer x ↦ gives (Some x) s.after | fault f ↦ record { outcome = fault f; after = no_bytes s.after } ]

-- the two addresses of the next tuple, a null pair too; a shorter end is none
abbrev pub next_two : ℕ → Meaning → Step (Option (ℕ × ℕ))
next_two s m = if count s m == 0 then gives None (no_bytes m) else or_empties (two s m)

-- what the next tuple says, if one is left
abbrev pub next_says : Kind → ℕ → Meaning → Option Says
next_says k s m = if count s m == 0 then None else Some (tuple k s m)

-- the next header of a section that begins at the id `start`, if a byte is left
abbrev pub next_set : ℕ → ℕ → Meaning → Step (Option Header)
next_set limit start m =
    if length m.rest == 0 then gives None m
    else or_empties (set_step limit (m.id - start) m)
