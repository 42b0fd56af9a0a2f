-- An unsigned number whose bytes a reader has shown before they are read. Assumes nothing.
use Rattle.std.proofs.Common.{◌≡◌, ℕ, ◌+◌, ◌*◌, ◌%◌, ◌^◌, ◌<◌, ◌≤◌, List, [], ◌∷◌, length, get_or, take, drop, Ok, sym, ap, ◌∙◌, arith}
use lib.Bits.{bit_or}
use Rattle.std.proofs.lemmas.List.{drop_more, get_or-take}
use Rattle.readers.specs.Reading.{Meaning, Step, at, past, gives, refuses, fixed_number}
use Rattle.readers.specs.Links.{Did}
use Rattle.readers.proofs.Steps.{gave}
use Rattle.leb128.specs.Leb128.{more, unsigned_leb128}
use Rattle.leb128.proofs.Spelling.{left, having, one_byte}
use Rattle.leb128.proofs.Unsigned.{ends, start, goes_on, ends_here, tenth_answers, tenth_refuses}

-- a read whose first i bytes are passed, and have the bits acc
abbrev pub left_past : ℕ → ℕ → Meaning → Step ℕ
left_past i acc m = left more [] ends i acc (past i m)

start_past : (m : Meaning) → left_past 0 0 m ≡ unsigned_leb128 m
start_past m =
    let e : m.id + 0 ≡ m.id = omega arith in
    ap (λ j. left more [] ends 0 0 (at j m.rest m)) e ∙ start m

module _ (m : Meaning) (bs : List ℕ) (enough : 10 ≤ length m.rest) (shown : bs ≡ take 10 m.rest) where
  -- a byte that was shown is the one that is read in its place
  byte_ahead : (i : ℕ) → i < 10 → Did (λ (x : ℕ). x) (Ok (get_or bs i 0)) (past (i + 1) m) (fixed_number 1 (past i m))
  byte_ahead i h =
      let b = get_or bs i 0 in
      let next : drop i m.rest ≡ get_or bs i 0 ∷ drop (i + 1) m.rest =
      drop_more m.rest i 0 (omega arith)
      ∙ ap (λ x. x ∷ drop (i + 1) m.rest) (sym (ap (λ xs. get_or xs i 0) shown ∙ get_or-take 10 m.rest i 0 h))
      in
      let e : m.id + i + 1 ≡ m.id + (i + 1) = omega arith in
      gave (λ x. x) _ _ _
      (ap (λ r. fixed_number 1 (having r (past i m))) next
      ∙ one_byte b (drop (i + 1) m.rest) (past i m)
      ∙ ap (λ j. gives b (at j (drop (i + 1) m.rest) m)) e)

  module _ (i acc : ℕ) (so_far : left_past i acc m ≡ unsigned_leb128 m) where
    module _ (h : i < 9) (v : ℕ) (value : v ≡ acc + 2 ^ (7 * i) * (get_or bs i 0 % 128)) where
      pub shown_goes_on : 128 ≤ get_or bs i 0 → left_past (i + 1) v m ≡ unsigned_leb128 m
      shown_goes_on f =
          ap (λ x. left_past (i + 1) x m) value
          ∙ sym (goes_on i acc (past i m) (past (i + 1) m) (get_or bs i 0) h (byte_ahead i (omega arith)) f)
          ∙ so_far

      pub shown_ends : get_or bs i 0 < 128 → unsigned_leb128 m ≡ gives v (past (i + 1) m)
      shown_ends f =
          sym so_far
          ∙ ends_here i acc (past i m) (past (i + 1) m) (get_or bs i 0) h (byte_ahead i (omega arith)) f
          ∙ ap (λ x. gives x (past (i + 1) m)) (sym value)

    module _ (nine : i ≡ 9) where
      at_nine : unsigned_leb128 m ≡ left more [] ends i acc (past 9 m)
      at_nine = sym so_far ∙ ap (λ j. left more [] ends i acc (past j m)) nine

      pub shown_tenth : get_or bs 9 0 ≤ 1 → acc < 2 ^ (7 * i) → unsigned_leb128 m ≡ gives (bit_or acc ((get_or bs 9 0 * 2 ^ 63) % 2 ^ 64)) (past 10 m)
      shown_tenth f fit =
          let e : 2 ^ (7 * i) ≡ 2 ^ 63 = ap (λ n. 2 ^ (7 * n)) nine in
          at_nine ∙ tenth_answers i acc (past 9 m) (past 10 m) (get_or bs 9 0) nine (byte_ahead 9 (omega arith)) f (omega arith)

      pub shown_refuses : 1 < get_or bs 9 0 → unsigned_leb128 m ≡ refuses 8 0 (past 10 m)
      shown_refuses f = at_nine ∙ tenth_refuses i acc (past 9 m) (past 10 m) (get_or bs 9 0) nine (byte_ahead 9 (omega arith)) f

  -- the first byte, from nothing
  pub shown_one : get_or bs 0 0 < 128 → unsigned_leb128 m ≡ gives (get_or bs 0 0) (past 1 m)
  shown_one f = shown_ends 0 0 (start_past m) (omega arith) (get_or bs 0 0) (omega arith) f

  pub shown_first : (v : ℕ) → v ≡ 0 + 2 ^ (7 * 0) * (get_or bs 0 0 % 128) → 128 ≤ get_or bs 0 0 → left_past 1 v m ≡ unsigned_leb128 m
  shown_first v value f = shown_goes_on 0 0 (start_past m) (omega arith) v value f
