-- The shortest form of a number: what it reads as, and why none is shorter. Assumes nothing.
use Rattle.std.proofs.Common.{◌≡◌, ℕ, zero, suc, ◌+◌, ◌*◌, ◌/◌, ◌%◌, ◌^◌, ◌<◌, ◌≤◌, Bool, true, false, cond, List, [], ◌∷◌, ◌++◌, length, drop, Ok, sym, refl, ap, ◌∙◌, ap₂, suc-le-suc, zero-le, mul_assoc, mul-add, arith, length-append}
use Rattle.std.proofs.lemmas.Bool.{le-leb, lt-leb}
use Rattle.std.proofs.lemmas.Nat.{pow-add}
use Rattle.std.proofs.lemmas.List.{drop_at}
use Rattle.readers.specs.Outcome.{answer, fault_of}
use Rattle.readers.specs.Reading.{Meaning, Step, at, past, gives, step_then, fixed_number}
use Rattle.readers.specs.Links.{Did}
use Rattle.leb128.specs.Leb128.{spelling, up_to, bits}
use Rattle.leb128.specs.Turned.{turned_group}
use Rattle.readers.proofs.Steps.{gave}
use Rattle.leb128.proofs.Spelling.{having, one_byte, spelt_last, spelt_more, unrolled, first}

-- each byte says that more follow
abbrev pub Mores : List ℕ → Type 0
Mores [] = Unit {0}
Mores (b ∷ bs) = (128 ≤ b) × Mores bs

pub mores_push : (bs : List ℕ) (b : ℕ) → Mores bs → 128 ≤ b → Mores (bs ++ b ∷ [])
mores_push [] b h k = (k, tt)
mores_push (c ∷ bs) b h k = (h.0, mores_push bs b h.1 k)

-- one byte of a reader that has it
byte_at : (m : Meaning) (b : ℕ) (rs : List ℕ) → m.rest ≡ b ∷ rs → fixed_number 1 m ≡ gives b (at (m.id + 1) rs m)
byte_at m b rs e = ap (λ r. fixed_number 1 (having r m)) e ∙ one_byte b rs m

byte_did : (m : Meaning) (b : ℕ) (rs : List ℕ) → m.rest ≡ b ∷ rs → Did (λ (x : ℕ). x) (Ok b) (at (m.id + 1) rs m) (fixed_number 1 m)
byte_did m b rs e = gave (λ x. x) b (at (m.id + 1) rs m) (fixed_number 1 m) (byte_at m b rs e)

-- bytes that go on in their places, and one that does not in its own
abbrev pub Spells : List (ℕ → Bool) → List ℕ → ℕ → Type 0
Spells [] ms l = ⊥
Spells (goes ∷ ps) [] l = goes l ≡ false
Spells (goes ∷ ps) (b ∷ ms) l = (goes b ≡ true) × Spells ps ms l

pub spells_more : (n : ℕ) (ms : List ℕ) (l : ℕ) → Mores ms → l < 128 → length ms < n → Spells (up_to n) ms l
spells_more zero ms l h f g = let no : ⊥ = omega arith in no
spells_more (suc n) [] l h f g = lt-leb 128 l f
spells_more (suc n) (b ∷ ms) l h f g = (le-leb 128 b h.0, spells_more n ms l h.1 f (omega arith))

-- such bytes are a spelling, whatever follows
pub spelt_form : {A : Type 0} (ps : List (ℕ → Bool)) (ms : List ℕ) (l : ℕ) (z : List ℕ) (m : Meaning) (k : List ℕ → Meaning → Step A) → Spells ps ms l → m.rest ≡ ms ++ l ∷ z → step_then (spelling ps m) k ≡ k (ms ++ l ∷ []) (at (m.id + (length ms + 1)) z m)
spelt_form [] ms l z m k h e = absurd h
spelt_form (goes ∷ ps) [] l z m k h e = spelt_last goes ps k m (at (m.id + 1) z m) l (byte_did m l z e) h
spelt_form (goes ∷ ps) (b ∷ ms) l z m k h e =
    let a = at (m.id + 1) (ms ++ l ∷ z) m in
    let i : m.id + 1 + (length ms + 1) ≡ m.id + (length (b ∷ ms) + 1) = omega arith in
    spelt_more goes ps k m a b (byte_did m b (ms ++ l ∷ z) e) h.0
    ∙ spelt_form ps ms l z a (λ bs y. k (b ∷ bs) y) h.1 refl
    ∙ ap (λ j. k (b ∷ (ms ++ l ∷ [])) (at j z m)) i

-- the reader after it
pub after_form : (ms : List ℕ) (l : ℕ) (z : List ℕ) (m : Meaning) → m.rest ≡ (ms ++ l ∷ []) ++ z → at (m.id + (length ms + 1)) z m ≡ past (length (ms ++ l ∷ [])) m
after_form ms l z m e =
    let n : length ms + 1 ≡ length (ms ++ l ∷ []) = sym (length-append ms (l ∷ []) ∙ omega arith) in
    ap₂ (λ j r. at (m.id + j) r m) n (sym (ap (drop (length (ms ++ l ∷ []))) e ∙ drop_at (ms ++ l ∷ []) z (length (ms ++ l ∷ [])) refl))

-- an answer comes from bytes that the reader has, and from one at least where there is a place for it
abbrev From : {A : Type 0} → (List ℕ → Meaning → Step A) → ℕ → ℕ → A → Type 0
From {A} k n r x = (bs : List ℕ) × (a : Meaning) × (length bs ≤ r) × (0 < n → 0 < length bs) × ((k bs a).outcome ≡ answer x)

from_first : {A : Type 0} (ps : List (ℕ → Bool)) (b r : ℕ) (a : Meaning) (k : List ℕ → Meaning → Step A) (x : A) (t : Bool) → ((step_then (spelling ps a) (λ bs z. k (b ∷ bs) z)).outcome ≡ answer x → From (λ bs z. k (b ∷ bs) z) (length ps) r x) → (cond t (step_then (spelling ps a) (λ bs z. k (b ∷ bs) z)) (k (b ∷ []) a)).outcome ≡ answer x → From k (suc (length ps)) (suc r) x
from_first ps b r a k x true rec e = let f = rec e in (b ∷ f.0, f.1, suc-le-suc f.2, (λ _. suc-le-suc zero-le), f.4)
from_first ps b r a k x false rec e = (b ∷ [], a, suc-le-suc zero-le, (λ _. suc-le-suc zero-le), e)

pub from_bytes : {A : Type 0} (ps : List (ℕ → Bool)) (rs : List ℕ) (m : Meaning) (k : List ℕ → Meaning → Step A) (x : A) → (step_then (spelling ps (having rs m)) k).outcome ≡ answer x → From k (length ps) (length rs) x
unfolding spelling
from_bytes [] rs m k x e = ([], having rs m, zero-le, (λ h. absurd (let no : ⊥ = omega arith in no)), e)
from_bytes (goes ∷ ps) [] m k x e =
    let p : fault_of 1 m.id ≡ answer x = sym (ap (λ s. s.outcome) (unrolled goes ps k (having [] m))) ∙ e in
    let z : ◌≡◌ {A = ℕ} 0 1 = cc in
    absurd (let no : ⊥ = omega arith in no)
from_bytes (goes ∷ ps) (b ∷ rs) m k x e =
    from_first ps b (length rs) (at (m.id + 1) rs m) k x (goes b) (from_bytes ps rs (at (m.id + 1) rs m) (λ bs z. k (b ∷ bs) z) x)
    (sym (ap (λ s. s.outcome) (unrolled goes ps k (having (b ∷ rs) m) ∙ ap (λ s. step_then s (first goes ps k)) (one_byte b rs m))) ∙ e)

-- the bits of a list are fewer than seven to a byte
pub bits_below : (bs : List ℕ) → bits bs < 2 ^ (7 * length bs)
bits_below [] = omega arith
bits_below (b ∷ bs) =
    let seven : 7 * length (b ∷ bs) ≡ 7 + 7 * length bs = omega arith in
    let p : 2 ^ (7 * length (b ∷ bs)) ≡ 128 * 2 ^ (7 * length bs) = ap (λ x. 2 ^ x) seven ∙ pow-add 2 7 (7 * length bs) in
    omega (arith, bits_below bs)

-- the bits below the last byte, turned over or not
abbrev pub low : Bool → List ℕ → ℕ
low t [] = 0
low t (b ∷ bs) = turned_group t (b % 128) + 128 * low t bs

pub low_plain : (bs : List ℕ) → low false bs ≡ bits bs
low_plain [] = refl
low_plain (b ∷ bs) = ap (λ x. b % 128 + 128 * x) (low_plain bs)

pub low_turned : (bs : List ℕ) → low true bs + bits bs + 1 ≡ 2 ^ (7 * length bs)
low_turned [] = omega arith
low_turned (b ∷ bs) =
    let seven : 7 * length (b ∷ bs) ≡ 7 + 7 * length bs = omega arith in
    let p : 2 ^ (7 * length (b ∷ bs)) ≡ 128 * 2 ^ (7 * length bs) = ap (λ x. 2 ^ x) seven ∙ pow-add 2 7 (7 * length bs) in
    omega (arith, low_turned bs)

pub low_push : (t : Bool) (bs : List ℕ) (b : ℕ) → low t (bs ++ b ∷ []) ≡ low t bs + 2 ^ (7 * length bs) * turned_group t (b % 128)
low_push t [] b = omega arith
low_push t (c ∷ bs) b =
    let seven : 7 * length (c ∷ bs) ≡ 7 + 7 * length bs = omega arith in
    let p : 2 ^ (7 * length (c ∷ bs)) ≡ 128 * 2 ^ (7 * length bs) = ap (λ x. 2 ^ x) seven ∙ pow-add 2 7 (7 * length bs) in
    let q : 2 ^ (7 * length (c ∷ bs)) * turned_group t (b % 128) ≡ 128 * (2 ^ (7 * length bs) * turned_group t (b % 128)) =
    ap (λ x. x * turned_group t (b % 128)) p ∙ mul_assoc 128 (2 ^ (7 * length bs)) (turned_group t (b % 128)) in
    omega (arith, low_push t bs b)

pub bits_push : (bs : List ℕ) (b : ℕ) → bits (bs ++ b ∷ []) ≡ bits bs + 2 ^ (7 * length bs) * (b % 128)
bits_push bs b = sym (low_plain (bs ++ b ∷ [])) ∙ low_push false bs b ∙ ap (λ x. x + 2 ^ (7 * length bs) * (b % 128)) (low_plain bs)

-- What a loop has written of u, with the bytes ms, and what is left of it.
pub record Going (t : Bool) (u rest n : ℕ) (ms : List ℕ) : Type 0 where
  pub many : length ms ≡ n
  pub mores : Mores ms
  pub sums : low t ms + 2 ^ (7 * n) * rest ≡ u

pub going_none : (t : Bool) (u : ℕ) → Going t u u 0 []
going_none t u = record { many = refl; mores = tt; sums = omega arith }

pub going_more : (t : Bool) (u rest n b : ℕ) (ms : List ℕ) → Going t u rest n ms → 128 ≤ b → turned_group t (b % 128) ≡ rest % 128 → Going t u (rest / 128) (n + 1) (ms ++ b ∷ [])
going_more t u rest n b ms g h e =
    let seven : 7 * (n + 1) ≡ 7 * n + 7 = omega arith in
    let p : 2 ^ (7 * (n + 1)) * (rest / 128) ≡ 2 ^ (7 * n) * (128 * (rest / 128)) =
    ap (λ x. 2 ^ x * (rest / 128)) seven ∙ ap (λ x. x * (rest / 128)) (pow-add 2 (7 * n) 7) ∙ mul_assoc (2 ^ (7 * n)) 128 (rest / 128) in
    let q : low t (ms ++ b ∷ []) ≡ low t ms + 2 ^ (7 * n) * (rest % 128) =
    low_push t ms b ∙ ap₂ (λ x y. low t ms + 2 ^ (7 * x) * y) g.many e in
    let r : 2 ^ (7 * n) * rest ≡ 2 ^ (7 * n) * (128 * (rest / 128)) + 2 ^ (7 * n) * (rest % 128) =
    ap (λ x. 2 ^ (7 * n) * x) (let d : rest ≡ 128 * (rest / 128) + rest % 128 = omega arith in d) ∙ mul-add (2 ^ (7 * n)) (128 * (rest / 128)) (rest % 128) in
    record {
      many = length-append ms (b ∷ []) ∙ ap (λ x. x + 1) g.many;
      mores = mores_push ms b g.mores h;
      sums = let f = g.sums in omega arith;
    }

-- what is left, at its place, is no more than u
pub going_le : (t : Bool) (u rest n : ℕ) (ms : List ℕ) → Going t u rest n ms → 2 ^ (7 * n) * rest ≤ u
going_le t u rest n ms g = let f = g.sums in omega arith
