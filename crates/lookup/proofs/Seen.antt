-- A search that was shown what a section answers has come to what a lookup gives.
use Rattle.std.proofs.Common.{◌≡◌, ℕ, ◌+◌, ◌^◌, ◌<◌, Bool, true, false, not, cond, List, [], ◌∷◌, length, Ok, Err, sym, refl, ap, ◌∙◌, arith}
use Rattle.readers.specs.Outcome.{Outcome, answer, fault}
use Rattle.aranges.specs.Tuples.{Entry}
use Rattle.aranges.specs.Answers as items
use Rattle.aranges.specs.Answers.{Answer, Item, set, tuple, Shown, end, goes_on, stops}
use Rattle.lookup.specs.declared.search.Search.{Search}
use Rattle.lookup.specs.Lookups.{Looked, range, spoilt, missing, holds, found_at, look}
use Rattle.lookup.specs.Searches.{is_open, one_more, looked_on}
use Rattle.lookup.specs.Links.{so_far, looked_by, Sought, looked_is, lookup_of}

-- what comes of items one by one
abbrev pub looked_over : ℕ → Looked → List Item → Looked
looked_over a l [] = l
looked_over a l (x ∷ xs) = looked_over a (looked_on a l x) xs

-- a search that is over stays as it is
over_stays : (a : ℕ) (l : Looked) (xs : List Item) → is_open l ≡ false → looked_over a l xs ≡ l
over_stays a l [] e = refl
over_stays a (range f c) (x ∷ xs) e = over_stays a (range f c) xs e
over_stays a (spoilt f) (x ∷ xs) e = over_stays a (spoilt f) xs e
over_stays a (missing c) (x ∷ xs) e = cc

open_of : (b c : Bool) → b ≡ not c → c ≡ not b
open_of true true e = cc
open_of true false e = refl
open_of false true e = refl
open_of false false e = cc

pub seen : {O : Type 0} {number : O → ℕ} {s t : Search O} {xs : List Item} {b : Bool} → is_open (so_far number s) ≡ true → Shown (Sought number) s xs b t
    → so_far number t ≡ looked_over s.address (so_far number s) xs
seen h end = refl
seen {number = number} h (goes_on {w = w} q r) =
    let p = q h in
    seen (open_of false (is_open (so_far number w)) p.1) r ∙ rw (p.0.address, p.0.looked) refl
seen {number = number} {s = s} {xs = x ∷ xs} h (stops {w = w} q) =
    let p = q h in
    p.0.looked
    ∙ sym (over_stays s.address (looked_on s.address (so_far number s) x) xs (rw p.0.looked at (open_of true (is_open (so_far number w)) p.1)))

-- a count that wraps at no item is exact
over_is : (a c : ℕ) (xs : List Item) → c + length xs < 2 ^ 64 → looked_over a (missing c) xs ≡ look a c xs
over_is a c [] h = refl
over_is a c (set x ∷ xs) h = over_is a c xs (omega arith)
over_is a c (tuple x ∷ xs) h = go x.outcome (over_is a c xs (omega arith)) (over_is a (c + 1) xs (omega arith))
  where
    go : (o : Outcome Entry) → looked_over a (missing c) xs ≡ look a c xs → looked_over a (missing (c + 1)) xs ≡ look a (c + 1) xs
        → looked_over a (elim o [ answer e ↦ cond (holds a e) (range (found_at x e) c) (missing c) | fault f ↦ missing (one_more c) ]) xs
        ≡ elim o [ answer e ↦ cond (holds a e) (range (found_at x e) c) (look a c xs) | fault f ↦ look a (c + 1) xs ]
    go (answer e) i j = held (holds a e) i
      where
        held : (b : Bool) → looked_over a (missing c) xs ≡ look a c xs
            → looked_over a (cond b (range (found_at x e) c) (missing c)) xs ≡ cond b (range (found_at x e) c) (look a c xs)
        held true i = over_stays a (range (found_at x e) c) xs refl
        held false i = i
    go (fault f) i j = let e : one_more c ≡ c + 1 = omega arith in ap (λ (n : ℕ). looked_over a (missing n) xs) e ∙ j
over_is a c (items.spoilt p f ∷ xs) h = over_stays a (spoilt f) xs refl

-- a whole search
lookup_so : {O : Type 0} (number : O → ℕ) (s : Search O) → looked_is number (lookup_of s) ≡ so_far number s
lookup_so number s = go s.found
  where
    go : (f : _) → looked_is number (lookup_of (record { address = s.address; passed = s.passed; found = f })) ≡ looked_by number f s.passed
    go (Ok f) = refl
    go (Err e) = refl

pub looks : {O : Type 0} (number : O → ℕ) (t : Search O) (a : ℕ) (xs : List Item) → length xs < 2 ^ 64 → so_far number t ≡ looked_over a (missing 0) xs
    → looked_is number (lookup_of t) ≡ look a 0 xs
looks number t a xs h e = lookup_so number t ∙ e ∙ over_is a 0 xs (omega arith)

-- one that was open did not change where it was over
pub over_same : (a : ℕ) (l : Looked) (x : Item) → is_open l ≡ false → l ≡ looked_on a l x
over_same a (range f c) x e = refl
over_same a (spoilt f) x e = refl
over_same a (missing c) x e = cc
