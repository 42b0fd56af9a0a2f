-- The state of an open walk, and for each call its answer and the state after it.
use Rattle.std.specs.Prelude.{ℕ, Some, None, Option}
use Rattle.readers.specs.Outcome.{Outcome, answer, fault, fault_of, fault_by}
use Rattle.readers.specs.Reading.{Meaning, Step}
use Rattle.aranges.specs.Sets.{Header}
use Rattle.aranges.specs.Tuples.{Kind, failed}
use Rattle.aranges.specs.Iterators.{Left, entries_of, draw, next_set}
use Rattle.walk.specs.Events.{Event, header, entries, told}

-- the section, the id of its first byte, the reader at the next header, the header answered last, and the tuples left
pub record Walk : Type 0 where
  pub whole : Meaning
  pub start : ℕ
  pub ahead : Meaning
  pub newest : Option Header
  pub left : Option Left

-- at the first set of a section, with no header and no tuples
abbrev pub open_walk : Meaning → Walk
open_walk m = record { whole = m; start = m.id; ahead = m; newest = None; left = None }

-- what a call answers, and the walk after it
pub record Turn : Type 0 where
  pub event : Event
  pub walk : Walk

-- only an answered header replaces the latest
abbrev pub newer_of : Outcome (Option Header) → Option Header → Option Header
newer_of (answer (Some h)) o = Some h
newer_of (answer None) o = o
newer_of (fault _) o = o

-- the next header
abbrev pub turn_header : ℕ → Walk → Turn
turn_header limit w =
    let s : Step (Option Header) = next_set limit w.start w.ahead in
    record {
      event = header s.outcome;
      walk = record w { ahead = s.after; newest = newer_of s.outcome w.newest };
    }

-- to the first tuple of the latest header's set
abbrev pub turn_entries : Walk → Turn
turn_entries w =
    elim w.newest [
      | Some h ↦
          record { event = entries (answer tt); walk = record w { left = Some (entries_of h) } }
      | None ↦ record { event = entries (fault_of 12 0); walk = w }
    ]

-- the next tuple of a kind
abbrev pub turn_next : Kind → Walk → Turn
turn_next k w =
    elim w.left [
      | Some l ↦
          record { event = told k (draw k l).0; walk = record w { left = Some (draw k l).1 } }
      | None ↦ record { event = told k (failed (fault_by 12 0)); walk = w }
    ]
