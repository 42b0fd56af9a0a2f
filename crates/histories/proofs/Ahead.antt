-- What next header answers from a place on: the headers of the run from there, the fault behind it, and then none.
use Rattle.std.proofs.Common.{◌≡◌, ℕ, ◌+◌, ◌-◌, ◌<◌, Bool, true, false, cond, eqb, ltb, List, [], ◌∷◌, length, drop, Some, None, Option, sym, refl, ap, ◌∙◌, subst, arith, length-drop}
use Rattle.std.proofs.lemmas.List.{drop-drop}
use Rattle.std.proofs.lemmas.Bool.{ltb-true, ltb-false, ne_eqb, eq-eqb}
use Rattle.readers.specs.Outcome.{Outcome, answer, fault}
use Rattle.readers.specs.Reading.{Meaning, Step, at, past, gives}
use Rattle.aranges.specs.Sets.{Header, header_at, span, set_step}
use Rattle.aranges.specs.Iterators.{or_empties, next_set}
use Rattle.histories.specs.Runs.{Run, end_from, Longest, fault_in, fault_at, fault_behind}
use Rattle.histories.specs.Law.{header_answers}
use Rattle.aranges.proofs.Parses.{leaves}
use Rattle.histories.proofs.Longest.{Bad, inside, stops_bad}

pub past_past : (p n : ℕ) (m : Meaning) → past n (past p m) ≡ past (p + n) m
past_past p n m = let e : (m.id + p) + n ≡ m.id + (p + n) = omega arith in rw (e, drop-drop n p m.rest)

-- answers of next header in order, from a reader on
abbrev pub Ahead : ℕ → ℕ → Meaning → List (Outcome (Option Header)) → Type 0
Ahead limit start a [] = length a.rest ≡ 0
Ahead limit start a (o ∷ os) = (0 < length a.rest) × ((next_set limit start a).outcome ≡ o) × Ahead limit start (next_set limit start a).after os

pub ended : (limit start : ℕ) (a : Meaning) → length a.rest ≡ 0 → next_set limit start a ≡ gives None a
ended limit start a z = rw (eq-eqb (length a.rest) 0 z)

next_at : (limit : ℕ) (m : Meaning) (p : ℕ) (s : Step Header) → p < length m.rest → set_step limit p (past p m) ≡ s → next_set limit m.id (past p m) ≡ or_empties s
next_at limit m p s l q =
    let e : (m.id + p) - m.id ≡ p = omega arith in
    let z : eqb (length (drop p m.rest)) 0 ≡ false = ne_eqb (length (drop p m.rest)) 0 (λ q. omega (arith, length-drop p m.rest, q)) in
    rw (z, e, q)

ahead_from : (limit : ℕ) (m : Meaning) (hs : List Header) (p : ℕ) → Run limit m p hs → Bad (header_at limit m (end_from p hs)) → Ahead limit m.id (past p m) (header_answers hs (fault_at limit m (end_from p hs)))
ahead_from limit m [] p r b = go (ltb p (length m.rest)) refl (header_at limit m p) refl
  where
    go : (t : Bool) → ltb p (length m.rest) ≡ t → (o : Outcome Header) → header_at limit m p ≡ o → Ahead limit m.id (past p m) (header_answers [] (cond t (fault_in o) None))
    go false q o e = omega (arith, ltb-false p (length m.rest) q, length-drop p m.rest)
    go true q (answer h) e = absurd (b h e)
    go true q (fault f) e =
        let l : p < length m.rest = ltb-true p (length m.rest) q in
        let a : Meaning = (set_step limit p (past p m)).after in
        let s = next_at limit m p (record { outcome = fault f; after = a }) l (ap (λ (o : Outcome Header). record { outcome = o; after = a }) e) in
        (omega (arith, length-drop p m.rest), ap (λ (x : Step (Option Header)). x.outcome) s, ap (λ (x : Step (Option Header)). length x.after.rest) s)
ahead_from limit m (h ∷ hs) p r b =
    let i = inside limit m p h r.0 in
    let l : p < length m.rest = omega arith in
    let s : next_set limit m.id (past p m) ≡ gives (Some h) (past (p + span h) m)
    = next_at limit m p (gives h (past (span h) (past p m))) l (leaves limit p (past p m) h r.0) ∙ ap (gives (Some h)) (past_past p (span h) m) in (
      omega (arith, length-drop p m.rest),
      ap (λ (x : Step (Option Header)). x.outcome) s,
      subst (λ (x : Step (Option Header)). Ahead limit m.id x.after (header_answers hs (fault_at limit m (end_from (p + span h) hs)))) (sym s) (ahead_from limit m hs (p + span h) r.1 b),
    )

pub ahead : (limit : ℕ) (m : Meaning) (hs : List Header) → Longest limit m hs → Ahead limit m.id m (header_answers hs (fault_behind limit m hs))
ahead limit m hs g =
    let e : m.id + 0 ≡ m.id = omega arith in
    subst (λ (i : ℕ). Ahead limit m.id (at i m.rest m) (header_answers hs (fault_behind limit m hs))) e (ahead_from limit m hs 0 g.run (stops_bad limit m hs g))
