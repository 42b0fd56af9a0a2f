-- Finding the record at an offset: in sorted records by one place, and after a stable sort as before it.
use Rattle.std.proofs.Common.{◌≡◌, ℕ, zero, suc, ◌<◌, ◌≤◌, ◌≢◌, Bool, true, false, cond, eqb, List, [], ◌∷◌, length, get_or, Option, Some, None, nat_cmp, is_lt, inl, inr, refl, sym, ap, ◌∙◌, subst, suc-le-suc, zero-le, zero-lt-suc, not-suc-le-zero, le_of_suc-le-suc, ne_eqb, arith}
use Rattle.std.proofs.Math.Path.{fun_ext}
use Rattle.std.specs.Prelude.{find, filter}
use Rattle.std.specs.Bool.{then_some}
use Rattle.std.specs.List.Sorted.{IsNonDecreasingBy, IsPartitionPoint, IsStableByKey, ties}
use Rattle.std.proofs.lemmas.Bool.Decides.{eqb_tells}
use Rattle.relocate.specs.declared.record.Relocation.{Relocation}
use Rattle.relocate.specs.Relocating.{record_at}

module _ {T : Type 0} (relocation : T → Relocation) where
  abbrev n : T → ℕ
  n x = (relocation x).offset

  record_at_none : (o : ℕ) (xs : List T) → ((k : ℕ) (d : T) → k < length xs → n (get_or xs k d) ≢ o) → record_at relocation xs o ≡ None
  record_at_none o [] other = refl
  record_at_none o (x ∷ xs) other =
      let e : eqb (n x) o ≡ false = ne_eqb _ _ (other zero x (zero-lt-suc _)) in
      rw e (record_at_none o xs (λ k d h. other (suc k) d (suc-le-suc h)))

  -- where those up to the place i have lower offsets: there is none behind
  pub record_at_end : (o : ℕ) (xs : List T) (i : ℕ) → IsPartitionPoint (λ y. n y < o) (λ y. o ≤ n y) xs i → length xs ≤ i → record_at relocation xs o ≡ None
  record_at_end o xs i point end = record_at_none o xs (λ k d h e. let below = point.0 k d zero-le (omega arith) in omega arith)

  -- and the one at that place
  pub record_at_point : (o : ℕ) (xs : List T) (i : ℕ) (x : T) → IsNonDecreasingBy n xs → IsPartitionPoint (λ y. n y < o) (λ y. o ≤ n y) xs i
      → i < length xs → get_or xs i x ≡ x → record_at relocation xs o ≡ then_some (eqb (n x) o) x
  record_at_point o [] i x up point within is = absurd (not-suc-le-zero within)
  record_at_point o (y ∷ xs) zero x up point within is =
      rw is (elim (eqb_tells (n x) o) [
        | inl w ↦ rw w.0
        | inr w ↦
            let here : o ≤ n y = point.1 zero y zero-le (zero-lt-suc _) in
            rw w.0 (record_at_none o xs (λ k d h e. let later : n y ≤ n (get_or xs k d) = up zero (suc k) d zero-le (suc-le-suc h) in omega (arith, w.1, ap n is)))
      ])
  record_at_point o (y ∷ xs) (suc i) x up point within is =
      let below : n y < o = point.0 zero y zero-le (zero-lt-suc _) in
      let e : eqb (n y) o ≡ false = grind arith in
      rw e (record_at_point o xs i x (λ j k d h l. up (suc j) (suc k) d (suc-le-suc h) (suc-le-suc l))
      (λ k d _ h. point.0 (suc k) d zero-le (suc-le-suc h), λ k d h l. point.1 (suc k) d (suc-le-suc h) (suc-le-suc l)) (le_of_suc-le-suc within) is)

  found_there : (o : ℕ) (xs : List T) (z : T) → record_at relocation xs o ≡ Some z → n z ≡ o
  found_there o [] z e = cc
  found_there o (x ∷ xs) z e = elim (eqb_tells (n x) o) [ inl w ↦ let f = rw w.0 at e in cc | inr w ↦ found_there o xs z (rw w.0 at e) ]

  abbrev head : List T → Option T
  head [] = None
  head (x ∷ xs) = Some x

  find_head : (p : T → Bool) (xs : List T) → find p xs ≡ head (filter p xs)
  find_head p [] = refl
  find_head p (x ∷ xs) = elim (p x) as (λ b. cond b (Some x) (find p xs) ≡ head (cond b (x ∷ filter p xs) (filter p xs))) [ true ↦ refl | false ↦ find_head p xs ]

  module _ (xs ys : List T) (stable : IsStableByKey n nat_cmp xs ys) where
    same_tied : (z : T) → record_at relocation ys (n z) ≡ record_at relocation xs (n z)
    same_tied z =
        let tied : ties (λ a b. is_lt (nat_cmp (n a) (n b))) z ≡ (λ x. eqb (n x) (n z)) = fun_ext (λ x. grind arith) in
        find_head _ ys ∙ ap head (subst (λ p. filter p ys ≡ filter p xs) tied (stable z)) ∙ sym (find_head _ xs)

    same_at : (o : ℕ) (r s : Option T) → record_at relocation ys o ≡ r → record_at relocation xs o ≡ s → record_at relocation ys o ≡ record_at relocation xs o
    same_at o (Some y) s e f = subst (λ i. record_at relocation ys i ≡ record_at relocation xs i) (found_there o ys y e) (same_tied y)
    same_at o None (Some x) e f = subst (λ i. record_at relocation ys i ≡ record_at relocation xs i) (found_there o xs x f) (same_tied x)
    same_at o None None e f = e ∙ sym f

    -- a stable sort moves no record before another at its offset
    pub record_at-sorted : record_at relocation ys ≡ record_at relocation xs
    record_at-sorted = fun_ext (λ o. same_at o _ _ refl refl)
