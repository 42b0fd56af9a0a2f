-- How the bytes of a number are read one by one. Assumes nothing.
use Rattle.std.proofs.Common.{◌≡◌, ℕ, zero, suc, ◌+◌, ◌-◌, ◌*◌, ◌%◌, ◌^◌, ◌<◌, ◌≤◌, Bool, true, false, cond, leb, List, [], ◌∷◌, ◌++◌, length, Ok, Err, sym, refl, ap, ◌∙◌, ap₂, ⊎_elim, eq-or-lt_of_le, le_refl, mul_comm, arith}
use lib.Bits.{bit_and, bit_or}
use Rattle.std.specs.Int.Bits.{or_shifted_r}
use Rattle.std.proofs.lemmas.Bool.{le-leb, lt-leb}
use Rattle.std.proofs.lemmas.Nat.{and_mask, shl_whole, pow-add, mul-le}
use Rattle.readers.specs.declared.error.Error.{Error}
use Rattle.readers.specs.Outcome.{fault}
use Rattle.readers.specs.Reading.{Meaning, Step, at, gives, refuses, step_then, fixed_number, spelt_number}
use Rattle.readers.specs.Links.{Did, fault_is}
use Rattle.readers.proofs.Steps.{then_answered, then_faulted, then_then, then_same}
use Rattle.leb128.specs.Leb128.{spelling, up_to, more, leb128_skip}

-- the first byte of a spelling, and what goes on with the rest
abbrev pub first : {A : Type 0} → (ℕ → Bool) → List (ℕ → Bool) → (List ℕ → Meaning → Step A) → ℕ → Meaning → Step A
first goes ps k b a = cond (goes b) (step_then (spelling ps a) (λ bs z. k (b ∷ bs) z)) (k (b ∷ []) a)

first_by : {A : Type 0} (ps : List (ℕ → Bool)) (k : List ℕ → Meaning → Step A) (b : ℕ) (a : Meaning) (t : Bool) → step_then (cond t (step_then (spelling ps a) (λ bs z. gives (b ∷ bs) z)) (gives (b ∷ []) a)) k ≡ cond t (step_then (spelling ps a) (λ bs z. k (b ∷ bs) z)) (k (b ∷ []) a)
first_by ps k b a true = then_then (spelling ps a) (λ bs z. gives (b ∷ bs) z) k
first_by ps k b a false = refl

module _ {A : Type 0} (goes : ℕ → Bool) (ps : List (ℕ → Bool)) (k : List ℕ → Meaning → Step A) (m : Meaning) where
  pub unrolled : step_then (spelling (goes ∷ ps) m) k ≡ step_then (fixed_number 1 m) (first goes ps k)
  unfolding spelling
  unrolled =
      then_then (fixed_number 1 m) (λ b a. cond (goes b) (step_then (spelling ps a) (λ bs z. gives (b ∷ bs) z)) (gives (b ∷ []) a)) k
      ∙ then_same (fixed_number 1 m) _ (first goes ps k) (λ b a. first_by ps k b a (goes b))

  pub spelt_fault : (a : Meaning) (e : Error) → Did {B = ℕ} (λ (x : ℕ). x) (Err e) a (fixed_number 1 m) → step_then (spelling (goes ∷ ps) m) k ≡ record { outcome = fault (fault_is e); after = a }
  spelt_fault a e d = unrolled ∙ then_faulted (fixed_number 1 m) (first goes ps k) (fault_is e) a d.answers d.leaves

  pub spelt_last : (a : Meaning) (b : ℕ) → Did (λ (x : ℕ). x) (Ok b) a (fixed_number 1 m) → goes b ≡ false → step_then (spelling (goes ∷ ps) m) k ≡ k (b ∷ []) a
  spelt_last a b d e =
      unrolled ∙ then_answered (fixed_number 1 m) (first goes ps k) b a d.answers d.leaves
      ∙ ap (λ t. cond t (step_then (spelling ps a) (λ bs z. k (b ∷ bs) z)) (k (b ∷ []) a)) e

  pub spelt_more : (a : Meaning) (b : ℕ) → Did (λ (x : ℕ). x) (Ok b) a (fixed_number 1 m) → goes b ≡ true → step_then (spelling (goes ∷ ps) m) k ≡ step_then (spelling ps a) (λ bs z. k (b ∷ bs) z)
  spelt_more a b d e =
      unrolled ∙ then_answered (fixed_number 1 m) (first goes ps k) b a d.answers d.leaves
      ∙ ap (λ t. cond t (step_then (spelling ps a) (λ bs z. k (b ∷ bs) z)) (k (b ∷ []) a)) e

one_by : {A : Type 0} (k : List ℕ → Meaning → Step A) (b : ℕ) (a : Meaning) (t : Bool) → cond t (k (b ∷ []) a) (k (b ∷ []) a) ≡ k (b ∷ []) a
one_by k b a true = refl
one_by k b a false = refl

-- where one place is left, its byte ends the spelling
pub spelt_one : {A : Type 0} (goes : ℕ → Bool) (k : List ℕ → Meaning → Step A) (m a : Meaning) (b : ℕ) → Did (λ (x : ℕ). x) (Ok b) a (fixed_number 1 m) → step_then (spelling (goes ∷ []) m) k ≡ k (b ∷ []) a
unfolding spelling
spelt_one goes k m a b d =
    unrolled goes [] k m ∙ then_answered (fixed_number 1 m) (first goes [] k) b a d.answers d.leaves ∙ one_by k b a (goes b)

-- two ways to go on that agree on what is not empty
pub spelt_same : {A : Type 0} (goes : ℕ → Bool) (ps : List (ℕ → Bool)) (k h : List ℕ → Meaning → Step A) (m : Meaning) → ((b : ℕ) (bs : List ℕ) (z : Meaning) → k (b ∷ bs) z ≡ h (b ∷ bs) z) → step_then (spelling (goes ∷ ps) m) k ≡ step_then (spelling (goes ∷ ps) m) h
spelt_same goes ps k h m e =
    unrolled goes ps k m
    ∙ then_same (fixed_number 1 m) (first goes ps k) (first goes ps h) (λ b a. ap₂ (cond (goes b)) (then_same (spelling ps a) _ _ (λ bs z. e b bs z)) (e b [] a))
    ∙ sym (unrolled goes ps h m)

-- A read after i of its first nine bytes, whose bits are acc; `goes` and `ts` are the places from the tenth on. K takes how many
-- of the nine are to come, what their bits count, and acc.
module _ {A : Type 0} (goes : ℕ → Bool) (ts : List (ℕ → Bool)) (K : ℕ → ℕ → ℕ → List ℕ → Meaning → Step A) where
  unfoldable pub left : ℕ → ℕ → Meaning → Step A
  left i acc m = step_then (spelling (up_to (9 - i) ++ goes ∷ ts) m) (K (9 - i) (2 ^ (7 * i)) acc)

  abbrev to_come : ℕ → ℕ → Meaning → Step A
  to_come acc i m = step_then (spelling (more ∷ (up_to (8 - i) ++ goes ∷ ts)) m) (K (suc (8 - i)) (2 ^ (7 * i)) acc)

  before_nine : (i acc : ℕ) (m : Meaning) → i < 9 → left i acc m ≡ to_come acc i m
  unfolding left
  before_nine i acc m h = let n : 9 - i ≡ suc (8 - i) = omega arith in ap (λ x. step_then (spelling (up_to x ++ goes ∷ ts) m) (K x (2 ^ (7 * i)) acc)) n

  left_fault : (i acc : ℕ) (m a : Meaning) (e : Error) → i < 9 → Did {B = ℕ} (λ (x : ℕ). x) (Err e) a (fixed_number 1 m) → left i acc m ≡ record { outcome = fault (fault_is e); after = a }
  left_fault i acc m a e h d =
      before_nine i acc m h ∙ spelt_fault more (up_to (8 - i) ++ goes ∷ ts) (K (suc (8 - i)) (2 ^ (7 * i)) acc) m a e d

  pub left_last : (i acc : ℕ) (m a : Meaning) (b : ℕ) → i < 9 → Did (λ (x : ℕ). x) (Ok b) a (fixed_number 1 m) → b < 128 → left i acc m ≡ K (suc (8 - i)) (2 ^ (7 * i)) acc (b ∷ []) a
  left_last i acc m a b h d f =
      before_nine i acc m h ∙ spelt_last more (up_to (8 - i) ++ goes ∷ ts) (K (suc (8 - i)) (2 ^ (7 * i)) acc) m a b d (lt-leb 128 b f)

  pub left_nine : (i acc : ℕ) (m : Meaning) → i ≡ 9 → left i acc m ≡ step_then (spelling (goes ∷ ts) m) (K 0 (2 ^ 63) acc)
  unfolding left
  left_nine i acc m e = ap (λ n. step_then (spelling (up_to (9 - n) ++ goes ∷ ts) m) (K (9 - n) (2 ^ (7 * n)) acc)) e

  -- a byte that is missing, one of the nine or the one behind them
  pub left_fails : (i acc : ℕ) (m a : Meaning) (e : Error) → i ≤ 9 → Did {B = ℕ} (λ (x : ℕ). x) (Err e) a (fixed_number 1 m) → left i acc m ≡ record { outcome = fault (fault_is e); after = a }
  left_fails i acc m a e h d =
      ⊎_elim
      (λ nine. left_nine i acc m nine ∙ spelt_fault goes ts (K 0 (2 ^ 63) acc) m a e d)
      (λ less. left_fault i acc m a e less d)
      (eq-or-lt_of_le h)

  pub left_more : ((d p acc b c : ℕ) (bs : List ℕ) (z : Meaning) → K (suc d) p acc (b ∷ c ∷ bs) z ≡ K d (p * 128) (acc + p * (b % 128)) (c ∷ bs) z) → (i acc : ℕ) (m a : Meaning) (b : ℕ) → i < 9 → Did (λ (x : ℕ). x) (Ok b) a (fixed_number 1 m) → 128 ≤ b → left i acc m ≡ left (i + 1) (acc + 2 ^ (7 * i) * (b % 128)) a
  unfolding left
  left_more law i acc m a b h d f =
      let o : 8 - i ≡ 9 - (i + 1) = omega arith in
      let seven : 7 * i + 7 ≡ 7 * (i + 1) = omega arith in
      let p : 2 ^ (7 * i) * 128 ≡ 2 ^ (7 * (i + 1)) = sym (pow-add 2 (7 * i) 7) ∙ ap (λ x. 2 ^ x) seven in
      before_nine i acc m h
      ∙ spelt_more more (up_to (8 - i) ++ goes ∷ ts) (K (suc (8 - i)) (2 ^ (7 * i)) acc) m a b d (le-leb 128 b f)
      ∙ some_same (8 - i) (λ bs z. K (suc (8 - i)) (2 ^ (7 * i)) acc (b ∷ bs) z) (K (8 - i) (2 ^ (7 * i) * 128) (acc + 2 ^ (7 * i) * (b % 128))) a (λ c bs z. law (8 - i) (2 ^ (7 * i)) acc b c bs z)
      ∙ ap₂ (λ x y. step_then (spelling (up_to x ++ goes ∷ ts) a) (K x y (acc + 2 ^ (7 * i) * (b % 128)))) o p
    where
      some_same : (n : ℕ) (k j : List ℕ → Meaning → Step A) (z : Meaning) → ((b : ℕ) (bs : List ℕ) (y : Meaning) → k (b ∷ bs) y ≡ j (b ∷ bs) y) → step_then (spelling (up_to n ++ goes ∷ ts) z) k ≡ step_then (spelling (up_to n ++ goes ∷ ts) z) j
      some_same zero k j z e = spelt_same goes ts k j z e
      some_same (suc n) k j z e = spelt_same more (up_to n ++ goes ∷ ts) k j z e

-- higher bits put in by `|`
pub higher : (r x k j w : ℕ) → r < 2 ^ k → x < 2 ^ j → j + k ≤ w → bit_or r ((x * 2 ^ k) % 2 ^ w) ≡ r + 2 ^ k * x
higher r x k j w h f g =
    ap (bit_or r) (shl_whole x j k w f g) ∙ or_shifted_r x k r h ∙ omega (arith, mul_comm x (2 ^ k))

pub seven_more : (r b k w : ℕ) → r < 2 ^ k → k + 7 ≤ w → bit_or r ((bit_and b 127 * 2 ^ k) % 2 ^ w) ≡ r + 2 ^ k * (b % 128)
seven_more r b k w h f =
    let low : bit_and b 127 ≡ b % 128 = and_mask b 7 in
    ap (λ x. bit_or r ((x * 2 ^ k) % 2 ^ w)) low ∙ higher r (b % 128) k 7 w h (omega arith) (omega arith)

pub seven_fit : (r b i : ℕ) → r < 2 ^ (7 * i) → i < 9 → bit_or r ((bit_and b 127 * 2 ^ (7 * i)) % 2 ^ 64) < 2 ^ (7 * (i + 1))
seven_fit r b i h n =
    let seven : 7 * i + 7 ≡ 7 * (i + 1) = omega arith in
    let p : 2 ^ (7 * (i + 1)) ≡ 2 ^ (7 * i) * 128 = ap (λ x. 2 ^ x) (sym seven) ∙ pow-add 2 (7 * i) 7 in
    let small : b % 128 ≤ 127 = omega arith in
    omega (arith, p, seven_more r b (7 * i) 64 h (omega arith), mul-le (2 ^ (7 * i)) (b % 128) (2 ^ (7 * i)) 127 (le_refl (2 ^ (7 * i))) small)

-- one byte is itself in either order
abbrev pub having : List ℕ → Meaning → Meaning
having rs m = at m.id rs m

byte_is : (r : ℕ) (big : Bool) → spelt_number big (r ∷ []) ≡ r
byte_is r true = omega arith
byte_is r false = omega arith

pub one_byte : (r : ℕ) (rs : List ℕ) (m : Meaning) → fixed_number 1 (having (r ∷ rs) m) ≡ gives r (at (m.id + 1) rs m)
one_byte r rs m =
    let t : leb 1 (length (r ∷ rs)) ≡ true = grind arith in
    ap (λ v. cond v (gives (spelt_number m.big (r ∷ [])) (at (m.id + 1) rs m)) (refuses 1 m.id (having (r ∷ rs) m))) t
    ∙ ap (λ v. gives v (at (m.id + 1) rs m)) (byte_is r m.big)

-- an answered byte is one that was there
took_by : (rs : List ℕ) (m a : Meaning) (b : ℕ) → Did (λ (x : ℕ). x) (Ok b) a (fixed_number 1 (having rs m)) → length rs ≡ suc (length a.rest)
took_by [] m a b d = let z : ◌≡◌ {A = ℕ} 0 1 = cc d.answers in absurd (grind arith)
took_by (r ∷ rs) m a b d = ap (λ t. suc (length t.rest)) (sym (d.leaves ∙ ap (λ t. t.after) (one_byte r rs m)))

pub passed_more : (m a : Meaning) (b : ℕ) → Did (λ (x : ℕ). x) (Ok b) a (fixed_number 1 m) → 128 ≤ b → leb128_skip m ≡ leb128_skip a
passed_more m a b d h =
    spelt_more more (up_to (length m.rest)) (λ _ z. gives tt z) m a b d (le-leb 128 b h)
    ∙ ap (λ n. step_then (spelling (up_to n) a) (λ _ z. gives tt z)) (took_by m.rest m a b d)
