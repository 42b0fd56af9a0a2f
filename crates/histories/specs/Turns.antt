-- Each call as a turn of the walk.
use Rattle.std.specs.Prelude.{ℕ}
use Rattle.walk.specs.Events.{looked}
use Rattle.lookup.specs.Lookups.{look_in}
use Rattle.walk.specs.State.{Walk, Turn, turn_header, turn_entries, turn_next}
use Rattle.histories.specs.Law.{Call, next_header, entries_call, next_call, lookup_call}

-- the turn of one call
abbrev pub step : ℕ → Call → Walk → Turn
step limit next_header w = turn_header limit w
step limit entries_call w = turn_entries w
step limit (next_call k) w = turn_next k w
step limit (lookup_call a) w = record { event = looked a (look_in limit a w.whole); walk = w }
