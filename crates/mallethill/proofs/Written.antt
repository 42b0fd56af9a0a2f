-- A buffer into which the ranges of a set were written.
use Rattle.std.proofs.Common.{◌≡◌, ℕ, suc, ◌+◌, ◌^◌, ◌<◌, ◌≤◌, ◌⊎◌, Bool, true, false, List, [], ◌∷◌, ◌++◌, length, map, set, sym, refl, ap, ap₂, ◌∙◌, inl, inr, arith, append_assoc, append-nil, length-append, add-zero, zero-add}
use Rattle.std.proofs.lemmas.Bool.{cases_lt}
use Rattle.std.proofs.lemmas.List.{set_past}
use Rattle.readers.specs.Outcome.{Outcome, answer, fault}
use Rattle.aranges.specs.Tuples.{Entry}
use Rattle.aranges.specs.Answers.{Answer, tuple, entries_in, fault_count, Shown, end, goes_on, stops}
use Rattle.mallethill.specs.declared.ranges.AddressRange.{AddressRange}
use Rattle.mallethill.specs.declared.ranges.RangeWriter.{RangeWriter}
use Rattle.mallethill.specs.Told.{buffer_with}
use Rattle.mallethill.specs.Ranges.{range_of}
use Rattle.mallethill.specs.Writing.{Written, written_by, written_range, written_fault, with_answers, Writes, next_count}
use Rattle.mallethill.proofs.Fills.{filled_none, buffer_within, filled_more, filled_full}

-- a visit writes the answers that it is shown, and keeps the buffer's name
pub shown : {w v : RangeWriter} {b : Bool} (xs : List Answer) → Shown Writes w (map tuple xs) b v
    → (v.ranges.ghost_name ≡ w.ranges.ghost_name) × (written_by v ≡ with_answers (written_by w) xs)
shown [] end = (refl, refl)
shown (x ∷ xs) (goes_on p r) = let q = shown xs r in (q.0 ∙ p.name, q.1 ∙ ap (λ (u : Written). with_answers u xs) p.written)
shown (x ∷ xs) (stops p) = let e : true ≡ false = p.goes_on in cc

module _ (before : List AddressRange) where
  -- some ranges stand at the buffer's front, and p faults were passed
  abbrev after : List AddressRange → ℕ → Written
  after done p = record { buffer = buffer_with before done; count = length done; passed = p }

  put : (done : List AddressRange) (r : AddressRange) → set (buffer_with before done) (length done) r ≡ buffer_with before (done ++ r ∷ [])
  put done r = go (cases_lt (length done) (length before))
    where
      go : (length done < length before) ⊎ (length before ≤ length done)
          → set (buffer_with before done) (length done) r ≡ buffer_with before (done ++ r ∷ [])
      go (inl h) = filled_more before done (length done) r refl h
      go (inr h) = set_past (buffer_with before done) (length done) r (buffer_within before done h) ∙ sym (filled_full before done (r ∷ []) h)

  with_more : (done : List AddressRange) (p : ℕ) (xs : List Answer) (o : Outcome Entry) → length done + p + suc (length xs) < 2 ^ 64
      → ((ds : List AddressRange) (q : ℕ) → length ds + q + length xs < 2 ^ 64
      → with_answers (after ds q) xs ≡ after (ds ++ map range_of (entries_in xs)) (q + fault_count xs))
      → with_answers (elim o [ answer e ↦ written_range (after done p) e | fault f ↦ written_fault (after done p) ]) xs
      ≡ after (done ++ map range_of (elim o [ answer e ↦ e ∷ entries_in xs | fault f ↦ entries_in xs ]))
      (p + (elim o [ answer e ↦ fault_count xs | fault f ↦ fault_count xs + 1 ]))
  with_more done p xs (answer e) h ih =
      let r : AddressRange = range_of e in
      let n : length (done ++ r ∷ []) ≡ length done + 1 = length-append done (r ∷ []) in
      let c : next_count (length done) ≡ length (done ++ r ∷ []) = omega (arith, n) in
      ap₂ (λ (bs : List AddressRange) (k : ℕ). with_answers (record { buffer = bs; count = k; passed = p }) xs) (put done r) c
      ∙ ih (done ++ r ∷ []) p (omega (arith, n))
      ∙ ap (λ (rs : List AddressRange). after rs (p + fault_count xs)) (append_assoc done (r ∷ []) (map range_of (entries_in xs)))
  with_more done p xs (fault f) h ih =
      let c : next_count p ≡ p + 1 = omega arith in
      let n : p + 1 + fault_count xs ≡ p + (fault_count xs + 1) = omega arith in
      ap (λ (k : ℕ). with_answers (after done k) xs) c
      ∙ ih done (p + 1) (omega arith)
      ∙ ap (after (done ++ map range_of (entries_in xs))) n

  more : (done : List AddressRange) (p : ℕ) (xs : List Answer) → length done + p + length xs < 2 ^ 64
      → with_answers (after done p) xs ≡ after (done ++ map range_of (entries_in xs)) (p + fault_count xs)
  more done p [] h = ap₂ after (sym (append-nil done)) (sym (add-zero p))
  more done p (x ∷ xs) h = with_more done p xs x.outcome h (λ ds q. more ds q xs)

pub written_all : (before : List AddressRange) (xs : List Answer) → length xs < 2 ^ 64
    → with_answers (record { buffer = before; count = 0; passed = 0 }) xs
    ≡ record { buffer = buffer_with before (map range_of (entries_in xs)); count = length (map range_of (entries_in xs)); passed = fault_count xs }
written_all before xs h =
    ap (λ (bs : List AddressRange). with_answers (record { buffer = bs; count = 0; passed = 0 }) xs) (sym (filled_none before))
    ∙ (more before [] 0 xs (omega arith) ∙ ap (after before (map range_of (entries_in xs))) (zero-add (fault_count xs)))
