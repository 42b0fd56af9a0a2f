-- How the code's walk and calls stand for those of the definitions.
use Rattle.std.specs.Prelude.{◌≡◌, ℕ, option_map}
use Rattle.readers.specs.Reading.{Meaning}
use Rattle.aranges.specs.Links.{header_is, entries_is}
use Rattle.walk.specs.declared.walk.Walk.{Walk}
use Rattle.walk.specs.Events.{Event}
use Rattle.walk.specs.State as State
use Rattle.walk.specs.State.{Turn}

-- the fields of a walk
abbrev pub walk_is : {R O : Type 0} → (R → Meaning) → (O → ℕ) → Walk R O → State.Walk
walk_is means number w =
    record {
      whole = means w.section.section;
      start = w.headers.start;
      ahead = means w.headers.input;
      newest = option_map (header_is means number) w.latest;
      left = option_map (entries_is means) w.tuples;
    }

-- a call of the walk: what happened, and the walk that it leaves
pub record Took (e : Event) (after : State.Walk) (t : Turn) : Type 0 where
  pub happened : e ≡ t.event
  pub leaves : after ≡ t.walk
