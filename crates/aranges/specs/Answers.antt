-- What a section answers: each set, what next answers on it with the number and the id of each tuple, and the fault of the
-- first header that can't be read. Lookups, surveys and the law each say what they make of this list.
use Rattle.std.specs.Prelude.{ℕ, zero, suc, ◌+◌, ◌-◌, ◌*◌, Bool, false, true, List, [], ◌∷◌, ◌++◌, map, length, Some, None, Option}
use Rattle.readers.specs.Outcome.{Outcome, Fault, answer, fault, fault_by}
use Rattle.readers.specs.Reading.{Meaning, past, front}
use Rattle.aranges.specs.Sets.{Header}
use Rattle.aranges.specs.Tuples as says
use Rattle.aranges.specs.Tuples.{Entry, converted, nothing, entry, overflow, refused}
use Rattle.aranges.specs.Iterators.{Left, entries_of, count, next_set}

-- the readers of n tuples of s-byte addresses: of each its place and its own bytes, and no others
abbrev pub tuple_readers : ℕ → ℕ → Meaning → List Meaning
tuple_readers zero s m = []
tuple_readers (suc n) s m = front (2 * s) m ∷ tuple_readers n s (past (2 * s) m)

-- the readers of the tuples that are left; a shorter end is no tuple
abbrev pub readers_left : Left → List Meaning
readers_left l = tuple_readers (count l.size l.tuples) l.size l.tuples

-- the readers of a set's tuples
abbrev pub readers_of : Header → List Meaning
readers_of h = readers_left (entries_of h)

-- An answer of next: the header of its set, the number of its tuple in the set, counted from 0 with null pairs, the id of
-- the tuple's first byte, and the range, or the fault that spoils the tuple.
pub record Answer : Type 0 where
  pub set : Header
  pub number : ℕ
  pub id : ℕ
  pub outcome : Outcome Entry

abbrev pub answer_at : Header → ℕ → Meaning → Outcome Entry → Answer
answer_at h n t o = record { set = h; number = n; id = t.id; outcome = o }

-- what next answers on tuples of a set with s-byte addresses, the first of which has the number n, up to relocation's fault
abbrev pub answers_from : Header → ℕ → ℕ → List Meaning → List Answer
answers_from h s n [] = []
answers_from h s n (t ∷ ts) =
    elim (says.tuple converted s t) [
      | nothing ↦ answers_from h s (suc n) ts
      | entry e ↦ answer_at h n t (answer e) ∷ answers_from h s (suc n) ts
      | overflow ↦ answer_at h n t (fault (fault_by 10 0)) ∷ answers_from h s (suc n) ts
      | refused f ↦ answer_at h n t (fault f) ∷ []
    ]

-- the same on the tuples left of a set
abbrev pub answers_left : Header → ℕ → Left → List Answer
answers_left h n l = answers_from h l.size n (readers_left l)

-- the same on a set from its first tuple on
abbrev pub answers_on : Header → List Answer
answers_on h = answers_left h 0 (entries_of h)

-- the same of sets, one after another
abbrev pub answers_of : List Header → List Answer
answers_of [] = []
answers_of (h ∷ hs) = answers_on h ++ answers_of hs

-- the ranges among answers
abbrev pub entries_in : List Answer → List Entry
entries_in [] = []
entries_in (x ∷ xs) = elim x.outcome [ answer e ↦ e ∷ entries_in xs | fault f ↦ entries_in xs ]

-- how many of them are faults
abbrev pub fault_count : List Answer → ℕ
fault_count [] = 0
fault_count (x ∷ xs) = elim x.outcome [ answer e ↦ fault_count xs | fault f ↦ fault_count xs + 1 ]

-- what stands in a section: a set, an answer of next on it, or at a place the fault of a header that can't be read
pub data Item : Type 0 where
  set : Header → Item
  tuple : Answer → Item
  spoilt : ℕ → Fault → Item

-- a set and its answers
abbrev pub items_on : Header → List Item
items_on h = set h ∷ map tuple (answers_on h)

-- at what next header gives at place p: none, a set and what is behind it, or a fault, which ends the section
abbrev pub items_by : ℕ → Outcome (Option Header) → (Unit {0} → List Item) → List Item
items_by p (answer None) k = []
items_by p (answer (Some h)) k = items_on h ++ k tt
items_by p (fault f) k = spoilt p f ∷ []

-- from the reader on, over at most n sets of the section that begins at the id `start`
abbrev pub items_from : ℕ → ℕ → ℕ → Meaning → List Item
items_from limit start zero m = []
items_from limit start (suc n) m =
    items_by (m.id - start) (next_set limit start m).outcome
    (λ _. items_from limit start n (next_set limit start m).after)

-- a whole section, which has at most as many sets as bytes
abbrev pub items_in : ℕ → Meaning → List Item
items_in limit m = items_from limit m.id (length m.rest) m

-- A visitor was shown a list item by item: to its end, or up to the item at which it stopped. `visits` relates the visitor
-- before an item, the item, whether it stops there, and the visitor after it.
pub data Shown {V : Type 0} (visits : V → Item → Bool → V → Type 0) : V → List Item → Bool → V → Type 0 where
  end : {v : V} → Shown visits v [] false v
  goes_on : {v w u : V} {x : Item} {xs : List Item} {b : Bool}
      → visits v x false w → Shown visits w xs b u → Shown visits v (x ∷ xs) b u
  stops : {v w : V} {x : Item} {xs : List Item} → visits v x true w → Shown visits v (x ∷ xs) true w
