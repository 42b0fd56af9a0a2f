-- What the calls of an open walk answer.
use Rattle.std.specs.Prelude.{ℕ, Option}
use Rattle.readers.specs.Outcome.{Outcome}
use Rattle.aranges.specs.Sets.{Header}
use Rattle.aranges.specs.Tuples.{Kind, Told}
use Rattle.lookup.specs.Lookups.{Looked}

-- one call with its answer; told stands for next and next raw, by the kind, and looked tells the address too
pub data Event : Type 0 where
  header : Outcome (Option Header) → Event
  entries : Outcome (Unit {0}) → Event
  told : Kind → Told → Event
  looked : ℕ → Looked → Event
