-- A signed number, byte by byte. Assumes nothing.
use Rattle.std.proofs.Common.{◌≡◌, ℕ, suc, ◌+◌, ◌*◌, ◌%◌, ◌^◌, ◌<◌, ◌≤◌, Bool, true, false, cond, ◌||◌, eqb, leb, List, [], ◌∷◌, length, get_or, ℤ, pos, ◌-ℤ◌, Ok, sym, ap, ◌∙◌, ap₂, mul_assoc, mul-add, arith}
use Rattle.std.proofs.lemmas.Nat.{pow-add, pow_below, one_shl}
use Rattle.std.proofs.lemmas.Int.{ints}
use Rattle.std.proofs.lemmas.Bool.Decides.{nat_tests}
use Rattle.readers.specs.Reading.{Meaning, Step, gives, refuses, fixed_number}
use Rattle.readers.specs.Links.{Did}
use Rattle.leb128.specs.Leb128.{spelling, up_to, more, bits, sign, signed_leb128}
use Rattle.readers.proofs.Steps.{then_same}
use Rattle.leb128.proofs.Spelling.{left, left_last, left_more, left_nine, spelt_one}

-- v, less p if the sign is set
abbrev pub signed_by : Bool → ℕ → ℕ → ℤ
signed_by s v p = pos v -ℤ pos (cond s p 0)

abbrev chosen : Bool → Meaning → ℤ → Step ℤ
chosen t a v = cond t (gives v a) (refuses 9 0 a)

abbrev whole : ℕ → Bool
whole b = eqb b 0 || eqb b 127

abbrev pub ends : ℕ → ℕ → ℕ → List ℕ → Meaning → Step ℤ
ends d p acc bs a = chosen (whole (get_or bs d 0)) a (signed_by (sign bs) (acc + p * bits bs) (p * 2 ^ (7 * length bs)))

pub start : (m : Meaning) → left more [] ends 0 0 m ≡ signed_leb128 m
unfolding left
start m =
    then_same (spelling (up_to 10) m) (ends 9 1 0) _
    (λ bs a.
    let e : 0 + 1 * bits bs ≡ bits bs = omega arith in
    let p : 1 * 2 ^ (7 * length bs) ≡ 2 ^ (7 * length bs) = omega arith in
    ap₂ (λ x y. chosen (whole (get_or bs 9 0)) a (signed_by (sign bs) x y)) e p)

law : (d p acc b c : ℕ) (bs : List ℕ) (z : Meaning) → ends (suc d) p acc (b ∷ c ∷ bs) z ≡ ends d (p * 128) (acc + p * (b % 128)) (c ∷ bs) z
law d p acc b c bs z =
    let e : acc + p * (b % 128 + 128 * bits (c ∷ bs)) ≡ acc + p * (b % 128) + p * 128 * bits (c ∷ bs) =
    omega (arith, mul-add p (b % 128) (128 * bits (c ∷ bs)), mul_assoc p 128 (bits (c ∷ bs))) in
    let seven : 7 * length (b ∷ c ∷ bs) ≡ 7 + 7 * length (c ∷ bs) = omega arith in
    let q : p * 2 ^ (7 * length (b ∷ c ∷ bs)) ≡ p * 128 * 2 ^ (7 * length (c ∷ bs)) =
    ap (λ x. p * 2 ^ x) seven ∙ ap (λ x. p * x) (pow-add 2 7 (7 * length (c ∷ bs))) ∙ sym (mul_assoc p 128 (2 ^ (7 * length (c ∷ bs)))) in
    ap₂ (λ x y. chosen (whole (get_or (c ∷ bs) d 0)) z (signed_by (sign (c ∷ bs)) x y)) e q

module _ (i acc : ℕ) (m a : Meaning) (b : ℕ) (h : i < 9) (did : Did (λ (x : ℕ). x) (Ok b) a (fixed_number 1 m)) where
  pub goes_on : 128 ≤ b → left more [] ends i acc m ≡ left more [] ends (i + 1) (acc + 2 ^ (7 * i) * (b % 128)) a
  goes_on f = left_more more [] ends law i acc m a b h did f

  pub ends_here : b < 128 → left more [] ends i acc m ≡ gives (signed_by (leb 64 (b % 128)) (acc + 2 ^ (7 * i) * (b % 128)) (2 ^ (7 * i) * 128)) a
  ends_here f =
      let e : b % 128 + 128 * 0 ≡ b % 128 = omega arith in
      left_last more [] ends i acc m a b h did f ∙ ap (λ x. gives (signed_by (leb 64 (b % 128)) (acc + 2 ^ (7 * i) * x) (2 ^ (7 * i) * 128)) a) e

whole_no : (b : ℕ) → (b ≡ 0 → ⊥) → (b ≡ 127 → ⊥) → whole b ≡ false
whole_no b h k = grind (arith, nat_tests)

less_none : (v : ℕ) → pos v -ℤ pos 0 ≡ pos v
less_none v = omega (arith, ints)

module _ (i acc : ℕ) (m a : Meaning) (b : ℕ) (h : i < 9) (did : Did (λ (x : ℕ). x) (Ok b) a (fixed_number 1 m)) (f : b < 128) where
  pub ends_plain : b < 64 → left more [] ends i acc m ≡ gives (pos (acc + 2 ^ (7 * i) * (b % 128))) a
  ends_plain k =
      let t : leb 64 (b % 128) ≡ false = grind arith in
      ends_here i acc m a b h did f
      ∙ ap (λ s. gives (signed_by s (acc + 2 ^ (7 * i) * (b % 128)) (2 ^ (7 * i) * 128)) a) t
      ∙ ap (λ z. gives z a) (less_none (acc + 2 ^ (7 * i) * (b % 128)))

  pub ends_signed : 64 ≤ b → left more [] ends i acc m ≡ gives (pos (acc + 2 ^ (7 * i) * (b % 128)) -ℤ pos (2 ^ (7 * i) * 128)) a
  ends_signed k =
      let t : leb 64 (b % 128) ≡ true = grind arith in
      ends_here i acc m a b h did f ∙ ap (λ s. gives (signed_by s (acc + 2 ^ (7 * i) * (b % 128)) (2 ^ (7 * i) * 128)) a) t

-- half of what the sign takes off
pub half_is : (i : ℕ) → i < 9 → ((1 * 2 ^ (7 * i + 6)) % 2 ^ 64 ≡ 2 ^ (7 * i) * 64) × (2 ^ (7 * i) * 64 < 2 ^ 63)
half_is i h =
    let e : 2 ^ (7 * i + 6) ≡ 2 ^ (7 * i) * 64 = pow-add 2 (7 * i) 6 in
    let s : (1 * 2 ^ (7 * i + 6)) % 2 ^ 64 ≡ 2 ^ (7 * i + 6) = one_shl (7 * i + 6) 64 (omega arith) in
    let b : 2 ^ (7 * i + 6) < 2 ^ 63 = pow_below (7 * i + 6) 63 (omega arith) in
    (s ∙ e, omega arith)

module _ (i acc : ℕ) (m a : Meaning) (b : ℕ) (nine : i ≡ 9) (did : Did (λ (x : ℕ). x) (Ok b) a (fixed_number 1 m)) where
  tenth_is : left more [] ends i acc m ≡ ends 0 (2 ^ 63) acc (b ∷ []) a
  tenth_is = left_nine more [] ends i acc m nine ∙ spelt_one more (ends 0 (2 ^ 63) acc) m a b did

  pub tenth_plain : b ≡ 0 → left more [] ends i acc m ≡ gives (pos acc) a
  tenth_plain e =
      let v : signed_by false (acc + 2 ^ 63 * 0) (2 ^ 63 * 128) ≡ pos acc = omega (arith, ints) in
      tenth_is ∙ ap (λ x. ends 0 (2 ^ 63) acc (x ∷ []) a) e ∙ ap (λ z. gives z a) v

  pub tenth_signed : b ≡ 127 → left more [] ends i acc m ≡ gives (pos acc -ℤ pos (2 ^ 63)) a
  tenth_signed e =
      let v : signed_by true (acc + 2 ^ 63 * 127) (2 ^ 63 * 128) ≡ pos acc -ℤ pos (2 ^ 63) = omega (arith, ints) in
      tenth_is ∙ ap (λ x. ends 0 (2 ^ 63) acc (x ∷ []) a) e ∙ ap (λ z. gives z a) v

  pub tenth_refuses : (b ≡ 0 → ⊥) → (b ≡ 127 → ⊥) → left more [] ends i acc m ≡ refuses 9 0 a
  tenth_refuses h k =
      tenth_is ∙ ap (λ t. chosen t a (signed_by (sign (b ∷ [])) (acc + 2 ^ 63 * bits (b ∷ [])) (2 ^ 63 * 128))) (whole_no b h k)
