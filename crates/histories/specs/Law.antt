-- Histories of the five calls on one walk, and the law of them.
use Rattle.std.specs.Prelude.{◌≡◌, ℕ, ◌+◌, Bool, true, false, List, [], ◌∷◌, ◌++◌, get_or, Some, None, Option, option_map}
use Rattle.readers.specs.Outcome.{Outcome, Fault, answer, fault, fault_of, fault_by}
use Rattle.readers.specs.Reading.{Meaning}
use Rattle.aranges.specs.Sets.{Header}
use Rattle.aranges.specs.Tuples.{Entry, Kind, Told, failed}
use Rattle.aranges.specs.Answers.{Answer, readers_of, answers_of, fault_count}
use Rattle.lookup.specs.Lookups.{Looked, range, spoilt, missing, holds, found_at}
use Rattle.walk.specs.Events.{Event, header, entries, told, looked}
use Rattle.histories.specs.Runs.{Longest, fault_behind}
use Rattle.histories.specs.Reads.{first_reply, readers_behind}

-- what next header answers, call by call, before it answers none: each header of the longest
-- run, then the fault behind it
abbrev pub header_answers : List Header → Option Fault → List (Outcome (Option Header))
header_answers [] None = []
header_answers [] (Some f) = fault f ∷ []
header_answers (h ∷ hs) b = answer (Some h) ∷ header_answers hs b

-- Of the events before an event the last stands first.

-- how often next header was called
abbrev pub header_count : List Event → ℕ
header_count [] = 0
header_count (header _ ∷ es) = header_count es + 1
header_count (_ ∷ es) = header_count es

-- the header that was answered last
abbrev pub last_header : List Event → Option Header
last_header [] = None
last_header (header (answer (Some h)) ∷ es) = Some h
last_header (_ ∷ es) = last_header es

-- what entries answers, by the header that was answered last
abbrev pub entries_answer : Option Header → Outcome (Unit {0})
entries_answer (Some _) = answer tt
entries_answer None = fault_of 12 0

-- the set that next and next raw are on, and the readers of its tuples that are left
pub record OpenSet : Type 0 where
  pub set : Header
  pub left : List Meaning

abbrev pub set_at_first : Header → OpenSet
set_at_first h = record { set = h; left = readers_of h }

abbrev pub set_behind : Kind → OpenSet → OpenSet
set_behind k s = record { set = s.set; left = readers_behind k s.set.size s.left }

-- an answered entries puts them on the set of the header that was answered last, and there they
-- stay until the next
abbrev pub open_set : List Event → Option OpenSet
open_set [] = None
open_set (entries (answer _) ∷ es) = option_map set_at_first (last_header es)
open_set (told k _ ∷ es) = option_map (set_behind k) (open_set es)
open_set (_ ∷ es) = open_set es

-- what they tell there; before an answered entries they are refused
abbrev pub reply_at : Kind → Option OpenSet → Told
reply_at k None = failed (fault_by 12 0)
reply_at k (Some s) = first_reply k s.set.size s.left

-- whether an answer of next is a range that holds the address
abbrev pub is_hit : ℕ → Answer → Bool
is_hit a x = elim x.outcome [ answer e ↦ holds a e | fault _ ↦ false ]

-- none of these is
abbrev pub Nowhere : ℕ → List Answer → Type 0
Nowhere a [] = Unit {0}
Nowhere a (x ∷ xs) = (is_hit a x ≡ false) × Nowhere a xs

-- What a lookup of the address a answers, by the answers xs of next on all sets of the longest
-- run and the fault behind it: the first range that holds the address, with the number of
-- faults before it; else that fault; else none, with the number of all faults.
pub data Lookup (xs : List Answer) (behind : Option Fault) (a : ℕ) : Looked → Type 0 where
  hit : (before : List Answer) (x : Answer) (e : Entry) (after : List Answer)
      → xs ≡ before ++ (x ∷ after) → Nowhere a before → x.outcome ≡ answer e → holds a e ≡ true
      → Lookup xs behind a (range (found_at x e) (fault_count before))
  broken : (f : Fault) → Nowhere a xs → behind ≡ Some f → Lookup xs behind a (spoilt f)
  absent : Nowhere a xs → behind ≡ None → Lookup xs behind a (missing (fault_count xs))

-- what an event has to be, by the events before it, where the longest run is hs and b the fault
-- behind it; a lookup answers by all sets, wherever the walk stands
abbrev pub Right : List Header → Option Fault → List Event → Event → Type 0
Right hs b before (header o) = o ≡ get_or (header_answers hs b) (header_count before) (answer None)
Right hs b before (entries o) = o ≡ entries_answer (last_header before)
Right hs b before (told k t) = t ≡ reply_at k (open_set before)
Right hs b before (looked a r) = Lookup (answers_of hs) b a r

-- the law of a walk's history from some event on
abbrev pub Lawful : List Header → Option Fault → List Event → List Event → Type 0
Lawful hs b before [] = Unit {0}
Lawful hs b before (e ∷ es) = Right hs b before e × Lawful hs b (e ∷ before) es

-- a section's longest run, and the lawful history of one walk over it
pub record History (limit : ℕ) (m : Meaning) (es : List Event) : Type 0 where
  pub sets : List Header
  pub longest : Longest limit m sets
  pub lawful : Lawful sets (fault_behind limit m sets) [] es

-- a call, without its answer
pub data Call : Type 0 where
  next_header : Call
  entries_call : Call
  next_call : Kind → Call
  lookup_call : ℕ → Call

-- the call of an event
abbrev pub call : Event → Call
call (header _) = next_header
call (entries _) = entries_call
call (told k _) = next_call k
call (looked a _) = lookup_call a
