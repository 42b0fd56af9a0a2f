-- The law of rows: what next and next raw tell on one set, from an answered entries to the next.
use Rattle.std.specs.Prelude.{◌≡◌, ℕ, List, [], ◌∷◌, ◌++◌, reverse, Some}
use Rattle.readers.specs.Outcome.{Fault, answer, fault_by}
use Rattle.readers.specs.Reading.{Meaning}
use Rattle.aranges.specs.Sets.{Header}
use Rattle.aranges.specs.Tuples.{Entry, Kind, nothing, entry, overflow, refused, Told, found, failed, over, tuple}
use Rattle.aranges.specs.Answers.{readers_of}
use Rattle.walk.specs.Events.{Event, header, entries, told, looked}
use Rattle.histories.specs.Law.{last_header}

-- nothing of this kind comes from any of these tuples
abbrev pub Silent : Kind → ℕ → List Meaning → Type 0
Silent k s [] = Unit {0}
Silent k s (t ∷ ts) = (tuple k s t ≡ nothing) × Silent k s ts

-- A row of next and next raw calls on the tuples that are left, with what they tell: each tells of
-- the first tuple left that has an answer of its kind, else that there is none; after relocation's
-- fault, or none, no tuple is left.
pub data Reads (s : ℕ) : List Meaning → List (Kind × Told) → Type 0 where
  done : {ts : List Meaning} → Reads s ts []
  finds : {k : Kind} {e : Entry} (before : List Meaning) (t : Meaning) (after : List Meaning)
      {more : List (Kind × Told)} → Silent k s before → tuple k s t ≡ entry e
      → Reads s after more → Reads s (before ++ (t ∷ after)) ((k, found e) ∷ more)
  overflows : {k : Kind} (before : List Meaning) (t : Meaning) (after : List Meaning)
      {more : List (Kind × Told)} → Silent k s before → tuple k s t ≡ overflow
      → Reads s after more → Reads s (before ++ (t ∷ after)) ((k, failed (fault_by 10 0)) ∷ more)
  stops : {k : Kind} (before : List Meaning) (t : Meaning) (after : List Meaning)
      {more : List (Kind × Told)} → Silent k s before → (f : Fault) → tuple k s t ≡ refused f
      → Reads s [] more → Reads s (before ++ (t ∷ after)) ((k, failed f) ∷ more)
  ends : {k : Kind} {ts : List Meaning} {more : List (Kind × Told)}
      → Silent k s ts → Reads s [] more → Reads s ts ((k, over) ∷ more)

-- the calls of next and next raw among events, in order, with what they told
abbrev pub told_among : List Event → List (Kind × Told)
told_among [] = []
told_among (told k a ∷ es) = (k, a) ∷ told_among es
told_among (header _ ∷ es) = told_among es
told_among (entries _ ∷ es) = told_among es
told_among (looked _ _ ∷ es) = told_among es

-- no entries call among events
abbrev pub Unreset : List Event → Type 0
Unreset [] = Unit {0}
Unreset (entries _ ∷ es) = ⊥
Unreset (header _ ∷ es) = Unreset es
Unreset (told _ _ ∷ es) = Unreset es
Unreset (looked _ _ ∷ es) = Unreset es

-- from an answered entries to the next entries, the calls read the tuples of the header that was
-- answered last before it; of the events before, the last stands first
abbrev pub InRows : List Event → Type 0
InRows es =
    (before during after : List Event) (h : Header)
    → es ≡ reverse before ++ (entries (answer tt) ∷ (during ++ after))
    → last_header before ≡ Some h → Unreset during
    → Reads h.size (readers_of h) (told_among during)
