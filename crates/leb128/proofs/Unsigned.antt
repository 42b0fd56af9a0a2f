-- An unsigned number, byte by byte. Assumes nothing.
use Rattle.std.proofs.Common.{◌≡◌, ℕ, suc, ◌+◌, ◌*◌, ◌%◌, ◌^◌, ◌<◌, ◌≤◌, Bool, true, false, cond, leb, List, [], ◌∷◌, get_or, Ok, sym, ap, ◌∙◌, ap₂, mul_assoc, mul-add, arith}
use lib.Bits.{bit_or}
use Rattle.readers.specs.Reading.{Meaning, Step, gives, refuses, fixed_number}
use Rattle.readers.specs.Links.{Did}
use Rattle.leb128.specs.Leb128.{spelling, up_to, more, bits, unsigned_leb128}
use Rattle.readers.proofs.Steps.{then_same}
use Rattle.leb128.proofs.Spelling.{left, left_last, left_more, left_nine, spelt_one, higher}

abbrev pub ends : ℕ → ℕ → ℕ → List ℕ → Meaning → Step ℕ
ends d p acc bs a = cond (leb (get_or bs d 0) 1) (gives (acc + p * bits bs) a) (refuses 8 0 a)

abbrev chosen : Bool → Meaning → ℕ → Step ℕ
chosen t a v = cond t (gives v a) (refuses 8 0 a)

pub start : (m : Meaning) → left more [] ends 0 0 m ≡ unsigned_leb128 m
unfolding left
start m =
    then_same (spelling (up_to 10) m) (ends 9 1 0) _
    (λ bs a. let e : 0 + 1 * bits bs ≡ bits bs = omega arith in ap (chosen (leb (get_or bs 9 0) 1) a) e)

law : (d p acc b c : ℕ) (bs : List ℕ) (z : Meaning) → ends (suc d) p acc (b ∷ c ∷ bs) z ≡ ends d (p * 128) (acc + p * (b % 128)) (c ∷ bs) z
law d p acc b c bs z =
    let e : acc + p * (b % 128 + 128 * bits (c ∷ bs)) ≡ acc + p * (b % 128) + p * 128 * bits (c ∷ bs) =
    omega (arith, mul-add p (b % 128) (128 * bits (c ∷ bs)), mul_assoc p 128 (bits (c ∷ bs))) in
    ap (chosen (leb (get_or (c ∷ bs) d 0) 1) z) e

module _ (i acc : ℕ) (m a : Meaning) (b : ℕ) (h : i < 9) (did : Did (λ (x : ℕ). x) (Ok b) a (fixed_number 1 m)) where
  pub goes_on : 128 ≤ b → left more [] ends i acc m ≡ left more [] ends (i + 1) (acc + 2 ^ (7 * i) * (b % 128)) a
  goes_on f = left_more more [] ends law i acc m a b h did f

  pub ends_here : b < 128 → left more [] ends i acc m ≡ gives (acc + 2 ^ (7 * i) * (b % 128)) a
  ends_here f =
      let e : b % 128 + 128 * 0 ≡ b % 128 = omega arith in
      left_last more [] ends i acc m a b h did f ∙ ap (λ x. gives (acc + 2 ^ (7 * i) * x) a) e

module _ (i acc : ℕ) (m a : Meaning) (b : ℕ) (nine : i ≡ 9) (did : Did (λ (x : ℕ). x) (Ok b) a (fixed_number 1 m)) where
  tenth_is : left more [] ends i acc m ≡ chosen (leb b 1) a (acc + 2 ^ 63 * (b % 128 + 128 * 0))
  tenth_is = left_nine more [] ends i acc m nine ∙ spelt_one more (ends 0 (2 ^ 63) acc) m a b did

  pub tenth_answers : b ≤ 1 → acc < 2 ^ 63 → left more [] ends i acc m ≡ gives (bit_or acc ((b * 2 ^ 63) % 2 ^ 64)) a
  tenth_answers h f =
      let t : leb b 1 ≡ true = grind arith in
      let e : acc + 2 ^ 63 * (b % 128 + 128 * 0) ≡ acc + 2 ^ 63 * b = omega arith in
      tenth_is ∙ ap₂ (λ x y. chosen x a y) t (e ∙ sym (higher acc b 63 1 64 f (omega arith) (omega arith)))

  pub tenth_refuses : 1 < b → left more [] ends i acc m ≡ refuses 8 0 a
  tenth_refuses h =
      let t : leb b 1 ≡ false = grind arith in
      tenth_is ∙ ap (λ x. chosen x a (acc + 2 ^ 63 * (b % 128 + 128 * 0))) t
