-- The events of a list of calls on a walk, turn by turn: they are of these calls, and keep the law.
use Rattle.std.proofs.Common.{◌≡◌, ℕ, ◌+◌, List, [], ◌∷◌, map, drop, get_or, Some, None, Option, refl, ap, ◌∙◌, arith}
use Rattle.std.proofs.lemmas.List.{drop-drop, get_or-drop}
use Rattle.readers.specs.Outcome.{Outcome, Fault, answer, fault}
use Rattle.readers.specs.Reading.{Meaning}
use Rattle.aranges.specs.Sets.{Header}
use Rattle.aranges.specs.Tuples.{Kind}
use Rattle.aranges.specs.Iterators.{Left, next_set}
use Rattle.aranges.specs.Answers.{readers_left, answers_of}
use Rattle.lookup.specs.Lookups.{look_in}
use Rattle.walk.specs.Events.{Event, header}
use Rattle.walk.specs.State.{Walk, Turn, open_walk, newer_of, turn_header, turn_entries, turn_next}
use Rattle.histories.specs.Runs.{Longest, fault_behind}
use Rattle.histories.specs.Law.{header_answers, header_count, last_header, entries_answer, OpenSet, open_set, Lookup, Right, Lawful, Call, call, next_header, entries_call, next_call, lookup_call}
use Rattle.histories.specs.Turns.{step}
use Rattle.histories.proofs.Ahead.{Ahead, ended, ahead}
use Rattle.histories.proofs.Looks.{look_is, is_lookup}
use Rattle.histories.proofs.Tellings.{drawn}

-- the events of a row of calls on a walk
abbrev pub replay : ℕ → Walk → List Call → List Event
replay limit w [] = []
replay limit w (c ∷ cs) = (step limit c w).event ∷ replay limit (step limit c w).walk cs

abbrev AgreesOpen : Option OpenSet → Option Left → Type 0
AgreesOpen None None = Unit {0}
AgreesOpen (Some s) (Some l) = (l.size ≡ s.set.size) × (readers_left l ≡ s.left)
AgreesOpen None (Some l) = ⊥
AgreesOpen (Some s) None = ⊥

newer_is : (o : Outcome (Option Header)) (n : Option Header) (before : List Event) → n ≡ last_header before → newer_of o n ≡ last_header (header o ∷ before)
newer_is (answer (Some h)) n before e = refl
newer_is (answer None) n before e = e
newer_is (fault f) n before e = e

goes : (limit start : ℕ) (a : Meaning) (os : List (Outcome (Option Header))) → Ahead limit start a os
    → ((next_set limit start a).outcome ≡ get_or os 0 (answer None)) × Ahead limit start (next_set limit start a).after (drop 1 os)
goes limit start a [] z = rw (ended limit start a z) (refl, z)
goes limit start a (o ∷ os) h = (h.1, h.2)

module _ (limit : ℕ) (m : Meaning) (hs : List Header) (b : Option Fault) (looks : (a : ℕ) → Lookup (answers_of hs) b a (look_in limit a m)) where
  -- where the walk is after events
  record Keeps (before : List Event) (w : Walk) : Type 0 where
    whole : w.whole ≡ m
    ahead : Ahead limit w.start w.ahead (drop (header_count before) (header_answers hs b))
    newest : w.newest ≡ last_header before
    on_set : AgreesOpen (open_set before) w.left

  -- a call after them
  record Next (before : List Event) (t : Turn) : Type 0 where
    right : Right hs b before t.event
    keeps : Keeps (t.event ∷ before) t.walk

  heads : (before : List Event) (w : Walk) → Keeps before w → Next before (turn_header limit w)
  heads before w k =
      let n : ℕ = header_count before in
      let g = goes limit w.start w.ahead (drop n (header_answers hs b)) k.ahead in
      let z : n + 0 ≡ n = omega arith in
      record {
        right = g.0 ∙ (get_or-drop n (header_answers hs b) 0 (answer None) ∙ ap (λ (i : ℕ). get_or (header_answers hs b) i (answer None)) z);
        keeps = record {
          whole = k.whole;
          ahead = rw (← drop-drop 1 n (header_answers hs b)) g.1;
          newest = newer_is (next_set limit w.start w.ahead).outcome w.newest before k.newest;
          on_set = k.on_set;
        };
      }

  enters : (before : List Event) (m0 : Meaning) (s : ℕ) (a : Meaning) (n : Option Header) (l : Option Left) → Keeps before (record { whole = m0; start = s; ahead = a; newest = n; left = l })
      → Next before (turn_entries (record { whole = m0; start = s; ahead = a; newest = n; left = l }))
  enters before m0 s a (Some h) l k =
      record { right = ap entries_answer k.newest; keeps = record { whole = k.whole; ahead = k.ahead; newest = k.newest; on_set = rw (← k.newest) (refl, refl) } }
  enters before m0 s a None l k = record { right = ap entries_answer k.newest; keeps = record { whole = k.whole; ahead = k.ahead; newest = k.newest; on_set = k.on_set } }

  tells : (before : List Event) (k : Kind) (m0 : Meaning) (s : ℕ) (a : Meaning) (n : Option Header) (l : Option Left) (t : Option OpenSet) → open_set before ≡ t
      → Keeps before (record { whole = m0; start = s; ahead = a; newest = n; left = l }) → Next before (turn_next k (record { whole = m0; start = s; ahead = a; newest = n; left = l }))
  tells before j m0 s a n (Some l) (Some t) e k =
      let x : (l.size ≡ t.set.size) × (readers_left l ≡ t.left) = rw e at k.on_set in
      let d = drawn j l in
      record { right = rw (e, ← x.0, ← x.1) d.0; keeps = record { whole = k.whole; ahead = k.ahead; newest = k.newest; on_set = rw e (x.0, rw (← x.0, ← x.1) d.1) } }
  tells before j m0 s a n None None e k = record { right = rw e refl; keeps = record { whole = k.whole; ahead = k.ahead; newest = k.newest; on_set = rw e tt } }
  tells before j m0 s a n None (Some t) e k = let x : ⊥ = rw e at k.on_set in absurd x
  tells before j m0 s a n (Some l) None e k = let x : ⊥ = rw e at k.on_set in absurd x

  next : (c : Call) (before : List Event) (w : Walk) → Keeps before w → Next before (step limit c w)
  next next_header before w k = heads before w k
  next entries_call before w k = enters before w.whole w.start w.ahead w.newest w.left k
  next (next_call j) before w k = tells before j w.whole w.start w.ahead w.newest w.left (open_set before) refl k
  next (lookup_call a) before w k =
      record { right = rw k.whole (looks a); keeps = record { whole = k.whole; ahead = k.ahead; newest = k.newest; on_set = k.on_set } }

  keeps_law : (cs : List Call) (before : List Event) (w : Walk) → Keeps before w → Lawful hs b before (replay limit w cs)
  keeps_law [] before w k = tt
  keeps_law (c ∷ cs) before w k = let n = next c before w k in (n.right, keeps_law cs ((step limit c w).event ∷ before) (step limit c w).walk n.keeps)

pub lawful : (limit : ℕ) (m : Meaning) (hs : List Header) (cs : List Call) → Longest limit m hs → Lawful hs (fault_behind limit m hs) [] (replay limit (open_walk m) cs)
lawful limit m hs cs g =
    keeps_law limit m hs (fault_behind limit m hs) (λ a. rw (look_is limit a m hs g) (is_lookup a (answers_of hs) (fault_behind limit m hs))) cs [] (open_walk m)
    (record { whole = refl; ahead = ahead limit m hs g; newest = refl; on_set = tt })

-- an event tells its call
entered_asked : (m : Meaning) (s : ℕ) (a : Meaning) (n : Option Header) (l : Option Left) → call (turn_entries (record { whole = m; start = s; ahead = a; newest = n; left = l })).event ≡ entries_call
entered_asked m s a (Some h) l = refl
entered_asked m s a None l = refl

told_asked : (k : Kind) (m : Meaning) (s : ℕ) (a : Meaning) (n : Option Header) (l : Option Left) → call (turn_next k (record { whole = m; start = s; ahead = a; newest = n; left = l })).event ≡ next_call k
told_asked k m s a n (Some l) = refl
told_asked k m s a n None = refl

step_asked : (limit : ℕ) (c : Call) (w : Walk) → call (step limit c w).event ≡ c
step_asked limit next_header w = refl
step_asked limit entries_call w = entered_asked w.whole w.start w.ahead w.newest w.left
step_asked limit (next_call k) w = told_asked k w.whole w.start w.ahead w.newest w.left
step_asked limit (lookup_call a) w = refl

pub asked : (limit : ℕ) (cs : List Call) (w : Walk) → map call (replay limit w cs) ≡ cs
asked limit [] w = refl
asked limit (c ∷ cs) w = rw (step_asked limit c w, asked limit cs (step limit c w).walk)
