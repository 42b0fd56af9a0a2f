-- Numbers of fewer than eight bytes, read into the low end of eight.
use Rattle.std.proofs.Common.{◌≡◌, ℕ, zero, suc, ◌+◌, ◌-◌, ◌*◌, ◌≤◌, Bool, true, false, cond, leb, List, [], ◌∷◌, ◌++◌, reverse, length, get_or, take, drop, Ok, sym, refl, ap, ◌∙◌, arith, length-append, length-drop, length-take, le-leb, leb-true}
use Rattle.std.proofs.lemmas.List.{length-reverse}
use Rattle.readers.specs.Outcome.{answer}
use Rattle.readers.specs.Reading.{Meaning, Step, little, spelt_number, past, gives, refuses, fixed_number, copy_step}
use Rattle.readers.specs.Links.{Did}
use Rattle.numbers.specs.Numbers.{uint}

-- the sum that eight bytes stand for
abbrev pub sum8 : List ℕ → ℕ
sum8 bs = get_or bs 0 0 + get_or bs 1 0 * 256 + get_or bs 2 0 * 65536 + get_or bs 3 0 * 16777216 + get_or bs 4 0 * 4294967296 + get_or bs 5 0 * 1099511627776 + get_or bs 6 0 * 281474976710656 + get_or bs 7 0 * 72057594037927936

pub sum8_little : (bs : List ℕ) → length bs ≤ 8 → sum8 bs ≡ little bs
sum8_little [] z = omega arith
sum8_little (a ∷ []) z = omega arith
sum8_little (a ∷ b ∷ []) z = omega arith
sum8_little (a ∷ b ∷ c ∷ []) z = omega arith
sum8_little (a ∷ b ∷ c ∷ d ∷ []) z = omega arith
sum8_little (a ∷ b ∷ c ∷ d ∷ e ∷ []) z = omega arith
sum8_little (a ∷ b ∷ c ∷ d ∷ e ∷ f ∷ []) z = omega arith
sum8_little (a ∷ b ∷ c ∷ d ∷ e ∷ f ∷ g ∷ []) z = omega arith
sum8_little (a ∷ b ∷ c ∷ d ∷ e ∷ f ∷ g ∷ h ∷ []) z = omega arith
sum8_little (a ∷ b ∷ c ∷ d ∷ e ∷ f ∷ g ∷ h ∷ i ∷ rest) z = let no : ⊥ = omega arith in absurd no

-- bytes that spell 0 add nothing behind others
pub little_end : (xs ys : List ℕ) → little ys ≡ 0 → little (xs ++ ys) ≡ little xs
little_end [] ys e = e
little_end (x ∷ xs) ys e = ap (λ n. x + 256 * n) (little_end xs ys e)

pub little_drop : (n : ℕ) (xs : List ℕ) → little xs ≡ 0 → little (drop n xs) ≡ 0
little_drop zero xs e = e
little_drop (suc n) [] e = e
little_drop (suc n) (x ∷ xs) e = little_drop n xs (omega arith)

abbrev pub zeros : List ℕ
zeros = 0 ∷ 0 ∷ 0 ∷ 0 ∷ 0 ∷ 0 ∷ 0 ∷ 0 ∷ []

little_order : (big : Bool) (bs : List ℕ) → little (cond big (reverse bs) bs) ≡ spelt_number big bs
little_order true bs = refl
little_order false bs = refl

-- what an answered copy of n bytes held and left
pub record Copied (n : ℕ) (m after : Meaning) (held : List ℕ) : Type 0 where
  pub room : leb n (length m.rest) ≡ true
  pub held_is : held ≡ take n m.rest
  pub after_is : after ≡ past n m

copied_by : (b : Bool) (n : ℕ) (m after : Meaning) (held : List ℕ) (s : Step (List ℕ)) → b ≡ leb n (length m.rest) → s ≡ cond b (gives (take n m.rest) (past n m)) (refuses 1 m.id m) → answer held ≡ s.outcome → after ≡ s.after → Copied n m after held
copied_by true n m after held s t d e f = record { room = sym t; held_is = cc; after_is = cc }
copied_by false n m after held s t d e f = let z : ◌≡◌ {A = ℕ} 0 1 = cc in let no : ⊥ = omega arith in absurd no

pub copied_is : (n k : ℕ) (m after : Meaning) (held : List ℕ) → k ≡ n → answer held ≡ (copy_step k m).outcome → after ≡ (copy_step k m).after → Copied n m after held
copied_is n k m after held d e f =
    let s : copy_step k m ≡ copy_step n m = ap (λ i. copy_step i m) d in
    copied_by (leb n (length m.rest)) n m after held (copy_step n m) refl refl (e ∙ ap (λ t. t.outcome) s) (f ∙ ap (λ t. t.after) s)

length_order : (big : Bool) (bs : List ℕ) → length (cond big (reverse bs) bs) ≡ length bs
length_order true bs = length-reverse bs
length_order false bs = refl

-- the bytes in their order, lowest first, with zeros behind them
pub uint_read : (n v : ℕ) (m after : Meaning) (held low bytes : List ℕ) → n ≤ 8 → Copied n m after held → low ≡ cond m.big (reverse held) held → bytes ≡ low ++ drop (n - 0) zeros → v ≡ sum8 bytes → Did (λ (x : ℕ). x) (Ok v) after (uint n m)
uint_read n v m after held low bytes h d e f w =
    let k : length low ≡ n =
    ap length e ∙ length_order m.big held ∙ ap length d.held_is ∙ length-take n m.rest ∙ omega (arith, leb-true n (length m.rest) d.room)
    in
    let long : length bytes ≤ 8 = rw f (simp (length-append, length-drop) (omega arith)) in
    let value : v ≡ little low =
    w ∙ sum8_little bytes long ∙ ap little f ∙ little_end low (drop (n - 0) zeros) (little_drop (n - 0) zeros refl)
    in
    let spells : little low ≡ spelt_number m.big (take n m.rest) = ap little e ∙ little_order m.big held ∙ ap (spelt_number m.big) d.held_is in
    let steps : uint n m ≡ gives (spelt_number m.big (take n m.rest)) (past n m) =
    ap (λ b. cond b (fixed_number n m) (refuses 14 n m)) (le-leb n 8 h)
    ∙ ap (λ b. cond b (gives (spelt_number m.big (take n m.rest)) (past n m)) (refuses 1 m.id m)) d.room
    in
    record {
      answers = ap answer (value ∙ spells) ∙ sym (ap (λ s. s.outcome) steps);
      leaves = d.after_is ∙ sym (ap (λ s. s.after) steps);
    }
