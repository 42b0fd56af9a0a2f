-- A tuple rests on its own bytes: it says the same where no others follow.
use Rattle.std.proofs.Common.{◌≡◌, ℕ, ◌+◌, ◌*◌, ◌≤◌, Bool, true, false, cond, leb, List, length, take, drop, refl, ap, ◌∙◌, sym, arith, length-drop, length-take}
use Rattle.std.proofs.lemmas.Bool.{le-leb, cond-true}
use Rattle.std.proofs.lemmas.List.{take-take, drop-take}
use Rattle.readers.specs.Outcome.{Outcome, fault_of}
use Rattle.readers.specs.Reading.{Meaning, Step, at, past, front, fixed_number, refuses, step_then, relocation_step, address, spelt_number, is_size}
use Rattle.aranges.specs.Tuples.{Kind, tuple}
use Rattle.aranges.proofs.Draws.{tuple_by}

-- an address rests on its place and its own bytes
address_is : (s : ℕ) (m : Meaning) → s ≤ length m.rest
    → (address s m).outcome ≡ cond (is_size s) (m.address m.id (spelt_number m.big (take s m.rest))) (fault_of 4 s)
address_is s m l = go (is_size s)
  where
    go : (b : Bool) → (step_then (cond b (fixed_number s m) (refuses 4 s m)) (relocation_step m.address m)).outcome ≡ cond b (m.address m.id (spelt_number m.big (take s m.rest))) (fault_of 4 s)
    go true = ap (λ (v : Step ℕ). (step_then v (relocation_step m.address m)).outcome) (cond-true (leb s (length m.rest)) _ _ (le-leb s (length m.rest) l))
    go false = refl

same_address : (s i : ℕ) (bs cs : List ℕ) (m : Meaning) → s ≤ length bs → s ≤ length cs → take s bs ≡ take s cs → (address s (at i bs m)).outcome ≡ (address s (at i cs m)).outcome
same_address s i bs cs m l k e =
    address_is s (at i bs m) l
    ∙ (ap (λ (v : List ℕ). cond (is_size s) (m.address i (spelt_number m.big v)) (fault_of 4 s)) e ∙ sym (address_is s (at i cs m) k))

-- a tuple rests on its place and its own bytes
pub tuple_alone : (k : Kind) (s : ℕ) (m : Meaning) → 2 * s ≤ length m.rest → tuple k s (front (2 * s) m) ≡ tuple k s m
tuple_alone k s m l =
    let e : 2 * s ≡ s + s = omega arith in
    let l1 : s ≤ length (take (2 * s) m.rest) = omega (arith, length-take (2 * s) m.rest) in
    let l2 : s ≤ length (drop s (take (2 * s) m.rest)) = omega (arith, length-take (2 * s) m.rest, length-drop s (take (2 * s) m.rest)) in
    let l3 : s ≤ length (drop s m.rest) = omega (arith, length-drop s m.rest) in
    let t1 : take s (take (2 * s) m.rest) ≡ take s m.rest = take-take s (2 * s) m.rest (omega arith) in
    let t2 : take s (drop s (take (2 * s) m.rest)) ≡ take s (drop s m.rest)
    = ap (λ (n : ℕ). take s (drop s (take n m.rest))) e ∙ (ap (λ (v : List ℕ). take s v) (drop-take s s m.rest) ∙ take-take s s (drop s m.rest) (omega arith)) in
    ap (λ (o : Outcome ℕ). tuple_by k s o (address s (past s (front (2 * s) m))).outcome) (same_address s m.id (take (2 * s) m.rest) m.rest m l1 (omega arith) t1)
    ∙ ap (λ (o : Outcome ℕ). tuple_by k s (address s m).outcome o) (same_address s (m.id + s) (drop s (take (2 * s) m.rest)) (drop s m.rest) m l2 l3 t2)
