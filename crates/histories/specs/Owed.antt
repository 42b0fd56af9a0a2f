-- What is owed of every history of calls on one walk.
use Rattle.std.specs.Prelude.{◌≡◌, ℕ, List, map}
use Rattle.readers.specs.Reading.{Meaning}
use Rattle.walk.specs.Events.{Event}
use Rattle.histories.specs.Law.{call, History}
use Rattle.histories.specs.Rows.{InRows}
use Rattle.histories.specs.Apart.{Apart}

-- the whole law, of the events es on one walk over the section m, whose offsets stay below limit
pub record Owed (limit : ℕ) (m : Meaning) (es : List Event) : Type 0 where
  -- headers come in order, entries and tuples answer by the set that they are on, and lookups by
  -- the whole section
  pub history : History limit m es
  -- row by row, next and next raw read the tuples of one set
  pub in_rows : InRows es
  -- however one set's tuples are spoilt, the rest reads as before
  pub apart : Apart limit m es
  -- no answer is left open: there is no other history of the same calls
  pub only : (es2 : List Event) → History limit m es2 → map call es2 ≡ map call es → es2 ≡ es
