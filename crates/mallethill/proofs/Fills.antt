-- A buffer that is filled from the front, one element after another.
use Rattle.std.proofs.Common.{◌≡◌, ℕ, ◌+◌, ◌-◌, ◌<◌, ◌≤◌, List, [], ◌∷◌, ◌++◌, length, take, drop, set, refl, sym, ap, ◌∙◌, arith, append_assoc, length-append, length-drop, drop-drop}
use Rattle.std.proofs.lemmas.Grind.{common_steps}
use Rattle.std.proofs.lemmas.List.{length-take-le, take_all, take-append-le, drop_all, set-append_right}
use Rattle.mallethill.specs.Told.{buffer_with}

module _ {A : Type 0} (before : List A) where
  -- nothing is written
  pub filled_none : buffer_with before [] ≡ before
  filled_none = grind (arith, common_steps)

  -- as much as has room
  filled_short : (done : List A) → length done ≤ length before → buffer_with before done ≡ done ++ drop (length done) before
  filled_short done h = ap (λ (l : List A). l ++ drop (length done) before) (take_all (length before) done h)

  -- no room is added
  pub buffer_within : (done : List A) → length before ≤ length done → length (buffer_with before done) ≤ length done
  buffer_within done h = omega (arith, length-append (take (length before) done) (drop (length done) before), length-take-le (length before) done h, length-drop (length done) before)

  put_first : (bs : List A) (x : A) → 0 < length bs → set bs 0 x ≡ x ∷ drop 1 bs
  put_first [] x h = let no : ⊥ = omega arith in absurd no
  put_first (b ∷ bs) x h = refl

  -- the next finds room
  pub filled_more : (done : List A) (k : ℕ) (x : A) → length done ≡ k → k < length before → set (buffer_with before done) k x ≡ buffer_with before (done ++ x ∷ [])
  filled_more done k x e h =
      let n : ℕ = length done in
      let rest : List A = drop n before in
      let z : k - n ≡ 0 = omega arith in
      let room : 0 < length rest = omega (arith, length-drop n before) in
      let last : n + 1 ≡ length (done ++ x ∷ []) = omega (arith, length-append done (x ∷ [])) in
      let fits : length (done ++ x ∷ []) ≤ length before = omega (arith, last) in
      ap (λ (l : List A). set l k x) (filled_short done (omega arith))
      ∙ set-append_right done rest n k x refl (omega arith)
      ∙ ap (λ (i : ℕ). done ++ set rest i x) z
      ∙ ap (λ (l : List A). done ++ l) (put_first rest x room ∙ ap (λ (l : List A). x ∷ l) (drop-drop 1 n before ∙ ap (λ (i : ℕ). drop i before) last))
      ∙ sym (append_assoc done (x ∷ []) (drop (length (done ++ x ∷ [])) before))
      ∙ sym (filled_short (done ++ x ∷ []) fits)

  -- the next finds none
  pub filled_full : (done more : List A) → length before ≤ length done → buffer_with before (done ++ more) ≡ buffer_with before done
  filled_full done more h = grind (arith, common_steps, take-append-le, drop_all)
