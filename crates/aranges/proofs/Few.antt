-- A section has no more items than bytes.
use Rattle.std.proofs.Common.{◌≡◌, ℕ, zero, suc, ◌-◌, ◌*◌, ◌≤◌, List, [], ◌∷◌, length, Some, None, Option, refl, ap, ◌∙◌, sym, arith, length-append}
use Rattle.std.proofs.lemmas.List.{length-map}
use native.Mathlib.Nat.{div-le_self}
use Rattle.readers.specs.Outcome.{Outcome, answer, fault, fault_by}
use Rattle.readers.specs.Reading.{Meaning, past}
use Rattle.aranges.specs.Sets.{Header}
use Rattle.aranges.specs.Tuples as says
use Rattle.aranges.specs.Tuples.{converted, Says, nothing, entry, overflow, refused}
use Rattle.aranges.specs.Iterators.{count, next_set}
use Rattle.aranges.specs.Answers.{Answer, tuple, answer_at, answers_from, answers_on, tuple_readers, items_by, items_from, items_in, items_on}
use Rattle.aranges.proofs.Shorter.{next_shorter, next_none}

few_answers : (h : Header) (s n : ℕ) (ts : List Meaning) → length (answers_from h s n ts) ≤ length ts
few_answers h s n [] = omega arith
few_answers h s n (t ∷ ts) = go (says.tuple converted s t) (few_answers h s (suc n) ts)
  where
    said : Says → List Answer
    said x = elim x [
      | nothing ↦ answers_from h s (suc n) ts
      | entry e ↦ answer_at h n t (answer e) ∷ answers_from h s (suc n) ts
      | overflow ↦ answer_at h n t (fault (fault_by 10 0)) ∷ answers_from h s (suc n) ts
      | refused f ↦ answer_at h n t (fault f) ∷ []
    ]

    go : (x : Says) → length (answers_from h s (suc n) ts) ≤ length ts → length (said x) ≤ suc (length ts)
    go nothing i = omega arith
    go (entry e) i = omega arith
    go overflow i = omega arith
    go (refused f) i = omega arith

length_readers : (n s : ℕ) (m : Meaning) → length (tuple_readers n s m) ≡ n
length_readers zero s m = refl
length_readers (suc n) s m = ap suc (length_readers n s (past (2 * s) m))

-- a set has no more answers than bytes
pub few_on : (h : Header) → length (answers_on h) ≤ length h.tuples.rest
few_on h =
    let n : ℕ = count h.size h.tuples in
    let a = few_answers h h.size 0 (tuple_readers n h.size h.tuples) in
    let b = length_readers n h.size h.tuples in
    let d = div-le_self (length h.tuples.rest) (2 * h.size) in
    omega (arith, a, b, d)

few_from : (limit b n : ℕ) (m : Meaning) → length (items_from limit b n m) ≤ length m.rest
few_from limit b zero m = omega arith
few_from limit b (suc n) m = go (next_set limit b m).outcome refl (few_from limit b n (next_set limit b m).after)
  where
    go : (o : Outcome (Option Header)) → (next_set limit b m).outcome ≡ o → length (items_from limit b n (next_set limit b m).after) ≤ length (next_set limit b m).after.rest
        → length (items_by (m.id - b) o (λ _. items_from limit b n (next_set limit b m).after)) ≤ length m.rest
    go (answer None) e i = omega arith
    go (answer (Some h)) e i =
        let s = next_shorter limit b m h e in
        omega (arith, i, s, few_on h, length-map (answers_on h) tuple, length-append (items_on h) (items_from limit b n (next_set limit b m).after))
    go (fault f) e i = some_byte (length m.rest) refl
      where
        some_byte : (k : ℕ) → length m.rest ≡ k → 1 ≤ length m.rest
        some_byte zero z = let q : fault f ≡ answer None = sym e ∙ next_none limit b m z in cc
        some_byte (suc k) z = omega arith

pub few_items : (limit : ℕ) (m : Meaning) → length (items_in limit m) ≤ length m.rest
few_items limit m = few_from limit m.id (length m.rest) m
