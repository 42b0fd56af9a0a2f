-- Searches side by side, one after another and item by item.
use Rattle.std.proofs.Common.{◌≡◌, ℕ, ◌+◌, ◌^◌, ◌<◌, ◌≤◌, ◌⊎◌, Bool, List, map, length, get_or, set, sym, refl, ap, ◌∙◌, inl, inr, arith}
use Rattle.std.proofs.lemmas.Bool.{cases_lt}
use Rattle.std.proofs.lemmas.List.{get_or_default, get_or-set_same, get_or-set_other, get_or-map, ext_get_or, length-map, length-set}
use Rattle.aranges.specs.Answers.{Item, Shown, end, goes_on, stops}
use Rattle.lookup.specs.declared.search.Search.{Search}
use Rattle.lookup.specs.declared.searches.Searches.{Searches}
use Rattle.lookup.specs.Lookups.{look, missing}
use Rattle.lookup.specs.Links.{WentEach, so_far, looked_is, lookup_of, new_search}
use Rattle.lookup.proofs.Seen.{looked_over, looks}

module _ {X : Type 0} (P : X → X → Type 0) where
  -- the first i of xs were changed by P, and no others
  pub record Changed (i : ℕ) (xs ys : List X) : Type 0 where
    pub same : length ys ≡ length xs
    pub before : (k : ℕ) (d : X) → k < i → P (get_or xs k d) (get_or ys k d)
    pub after : (k : ℕ) (d : X) → i ≤ k → get_or ys k d ≡ get_or xs k d

  pub changed_none : (xs : List X) → Changed 0 xs xs
  changed_none xs = record { same = refl; before = λ k d h. absurd (omega arith); after = λ k d h. refl }

  pub changed_more : (i : ℕ) (xs ys : List X) (e v : X) → Changed i xs ys → i < length xs → P (get_or ys i e) v → Changed (i + 1) xs (set ys i v)
  changed_more i xs ys e v c h p =
      record {
        same = length-set ys i v ∙ c.same;
        before = λ k d l. go k d l (cases_lt k i);
        after = λ k d l. get_or-set_other ys i k v d (λ q. omega arith) ∙ c.after k d (omega arith);
      }
    where
      go : (k : ℕ) (d : X) → k < i + 1 → (k < i) ⊎ (i ≤ k) → P (get_or xs k d) (get_or (set ys i v) k d)
      go k d l (inl a) = rw (get_or-set_other ys i k v d (λ q. omega arith)) (c.before k d a)
      go k d l (inr a) =
          let q : k ≡ i = omega arith in
          let n : i < length ys = omega (arith, c.same) in
          rw (q, get_or-set_same ys i v d n, ← c.after i d (omega arith), get_or_default ys i d e n) p

-- what was shown to all of them was shown to each
module _ {O : Type 0} (number : O → ℕ) where
  abbrev Steps : Searches O → Item → Bool → Searches O → Type 0
  Steps s x b t = WentEach number s.0.items x b t.0.items

  seen_each : {s t : Searches O} {xs : List Item} {b : Bool} (k : ℕ) (d : Search O) → k < length s.0.items → Shown Steps s xs b t
      → so_far number (get_or t.0.items k d) ≡ looked_over (get_or s.0.items k d).address (so_far number (get_or s.0.items k d)) xs
  seen_each k d h end = refl
  seen_each k d h (goes_on q r) = let p = q.each k d h in seen_each k d (omega (arith, q.same)) r ∙ rw (p.address, p.looked) refl
  seen_each k d h (stops q) = let p = q.goes_on in cc

  seen_same : {s t : Searches O} {xs : List Item} {b : Bool} → Shown Steps s xs b t → length t.0.items ≡ length s.0.items
  seen_same end = refl
  seen_same (goes_on q r) = seen_same r ∙ q.same
  seen_same (stops q) = q.same

  pub looks_each : {s t : Searches O} {xs : List Item} {b : Bool} (addresses : List ℕ) → s.0.items ≡ map new_search addresses → length xs < 2 ^ 64 → Shown Steps s xs b t
      → map (looked_is number) (map lookup_of t.0.items) ≡ map (λ a. look a 0 xs) addresses
  looks_each {s = s} {t = t} {xs = xs} addresses e h q =
      ext_get_or (missing 0) (map (looked_is number) (map lookup_of t.0.items)) (map (λ a. look a 0 xs) addresses) lengths
      (λ k l. each k (omega (arith, lengths, length-map addresses (λ a. look a 0 xs))))
    where
      same : length t.0.items ≡ length addresses
      same = seen_same q ∙ (rw e (length-map addresses new_search))

      lengths : length (map (looked_is number) (map lookup_of t.0.items)) ≡ length (map (λ a. look a 0 xs) addresses)
      lengths = simp length-map same

      each : (k : ℕ) → k < length addresses → get_or (map (looked_is number) (map lookup_of t.0.items)) k (missing 0) ≡ get_or (map (λ a. look a 0 xs) addresses) k (missing 0)
      each k l =
          let d : Search O = new_search 0 in
          let n : k < length t.0.items = omega (arith, same) in
          let i : get_or s.0.items k d ≡ new_search (get_or addresses k 0) = rw e (get_or-map new_search addresses k 0 d l) in
          get_or-map (looked_is number) (map lookup_of t.0.items) k (lookup_of d) (missing 0) (simp length-map n)
          ∙ ap (looked_is number) (get_or-map lookup_of t.0.items k d (lookup_of d) n)
          ∙ looks number (get_or t.0.items k d) (get_or addresses k 0) xs h (rw i at (seen_each k d (omega (arith, seen_same q)) q))
          ∙ sym (get_or-map (λ a. look a 0 xs) addresses k 0 (missing 0) l)
