-- A part of a section: its length, and what is past its first bytes.
use Rattle.std.proofs.Common.{◌≡◌, ℕ, ◌+◌, ◌-◌, ◌≤◌, Bool, List, length, take, drop, sym, ap, ◌∙◌, arith, length-take, length-drop, take-take, drop-drop}
use Rattle.std.proofs.lemmas.List.{drop-take}
use Rattle.readers.specs.Reading.{plain_reader, past}
use Rattle.readers.specs.Sections.{part}

pub length_part : (f n : ℕ) (s : List ℕ) → f + n ≤ length s → length (part f n s) ≡ n
length_part f n s h = omega (arith, length-take n (drop f s), length-drop f s)

module _ (i f n : ℕ) (s : List ℕ) (big : Bool) (k : ℕ) (fits : k ≤ n) where
  past_part : part (f + k) (n - k) s ≡ drop k (part f n s)
  past_part =
      let e : n ≡ k + (n - k) = omega arith in
      sym (ap (λ m. drop k (part f m s)) e ∙ drop-take k (n - k) (drop f s) ∙ ap (take (n - k)) (drop-drop k f s))

  -- a reader of n bytes from place f on, past k of them
  pub past_is : plain_reader (i + (f + k)) (part (f + k) (n - k) s) big ≡ past k (plain_reader (i + f) (part f n s) big)
  past_is =
      let e : i + (f + k) ≡ i + f + k = omega arith in
      let d = past_part in
      cc

  pub front_part : part f k s ≡ take k (part f n s)
  front_part = sym (take-take k n (drop f s) fits)

  -- the same between two places
  pub front_between : part f (f + k - f) s ≡ take k (part f n s)
  front_between =
      let e : f + k - f ≡ k = omega arith in
      ap (λ m. part f m s) e ∙ front_part
