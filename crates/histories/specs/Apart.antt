-- What spoiling the tuples of one set may change of a history.
use Rattle.std.specs.Prelude.{◌≡◌, ℕ, ◌+◌, ◌<◌, ◌≤◌, ◌⊎◌, List, [], ◌∷◌, ◌++◌, map, length, Some, None, Option, slice_index}
use Rattle.readers.specs.Outcome.{answer}
use Rattle.readers.specs.Reading.{Meaning, at}
use Rattle.aranges.specs.Sets.{Header}
use Rattle.aranges.specs.Tuples.{Kind, Told}
use Rattle.lookup.specs.Lookups.{Looked, range, spoilt, missing}
use Rattle.walk.specs.Events.{Event, header, told, looked}
use Rattle.histories.specs.Runs.{Longest}
use Rattle.histories.specs.Law.{OpenSet, open_set, History, call}

-- the byte at place i of the section lies outside the tuples of the set h
abbrev pub Outside : Meaning → Header → ℕ → Type 0
Outside m h i = (m.id + i < h.tuples.id) ⊎ (h.tuples.id + length h.tuples.rest ≤ m.id + i)

-- m2 is a section of equal length, opened alike, that differs from m only in the tuples of h
pub record Spoils (m : Meaning) (h : Header) (m2 : Meaning) : Type 0 where
  pub alike : m2 ≡ at m.id m2.rest m
  pub as_long : length m2.rest ≡ length m.rest
  pub elsewhere : (i : ℕ) → Outside m h i → slice_index m2.rest i ≡ slice_index m.rest i

-- the same header, but for its tuples' bytes
pub record Alike (g h : Header) : Type 0 where
  pub as_many : length g.tuples.rest ≡ length h.tuples.rest
  pub place : g.place ≡ h.place
  pub length : g.length ≡ h.length
  pub word : g.word ≡ h.word
  pub version : g.version ≡ h.version
  pub size : g.size ≡ h.size
  pub info : g.info ≡ h.info
  pub tuples : g.tuples ≡ at h.tuples.id g.tuples.rest h.tuples

-- a lookup ends in a set before the place p
abbrev pub EndsBefore : ℕ → Looked → Type 0
EndsBefore p (range f _) = f.set < p
EndsBefore p (spoilt _) = ⊥
EndsBefore p (missing _) = ⊥

-- next and next raw are on the set at place p
abbrev pub IsOpenAt : ℕ → Option OpenSet → Type 0
IsOpenAt p None = ⊥
IsOpenAt p (Some s) = s.set.place ≡ p

-- Answers to the same call, where the tuples of the set at place p were spoilt in one of two
-- sections: they are the same, or that set's headers, or answers of next or next raw on that
-- set, or lookups that end in no earlier set.
pub data Agrees (p : ℕ) (before : List Event) : Event → Event → Type 0 where
  same : {e : Event} → Agrees p before e e
  its_header : {g h : Header} → h.place ≡ p → Alike g h
      → Agrees p before (header (answer (Some g))) (header (answer (Some h)))
  its_tuples : {k : Kind} {s t : Told} → IsOpenAt p (open_set before)
      → Agrees p before (told k s) (told k t)
  its_lookups : {a : ℕ} {r s : Looked} → (EndsBefore p r → ⊥) → (EndsBefore p s → ⊥)
      → Agrees p before (looked a r) (looked a s)

-- the same, event for event; of the events before them the last stands first
abbrev pub AllAgree : ℕ → List Event → List Event → List Event → Type 0
AllAgree p before [] [] = Unit {0}
AllAgree p before (e ∷ es) (f ∷ fs) = Agrees p before e f × AllAgree p (e ∷ before) es fs
AllAgree p before (_ ∷ _) [] = ⊥
AllAgree p before [] (_ ∷ _) = ⊥

-- however the tuples of one set h of the longest run are spoilt, so that the section m becomes
-- m2: any lawful history es2 of the same calls over m2 agrees with es
abbrev pub Apart : ℕ → Meaning → List Event → Type 0
Apart limit m es =
    (m2 : Meaning) (es2 : List Event) (h : Header) (front rest : List Header)
    → Longest limit m (front ++ (h ∷ rest)) → Spoils m h m2
    → History limit m2 es2 → map call es2 ≡ map call es → AllAgree h.place [] es es2
