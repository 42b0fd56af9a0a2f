-- A layer of relocation over a reader: each relocated read is the reader's own, and then the policy's answer.
use Rattle.std.proofs.Common.{◌≡◌, ℕ, ◌-◌, refl, ap, ◌∙◌, arith}
use Rattle.readers.specs.Outcome.{Outcome, answer, fault}
use Rattle.readers.specs.Reading.{Meaning, Step, step_then, fixed_number, sized_number, offset_number, offset_step, relocation_step, word, sized_word, address, offset, sized_offset}
use Rattle.relocate.specs.Relocating.{Policy, layer, outcome_then}

module _ (limit : ℕ) (policy : Policy) (start : ℕ) (m : Meaning) where
  abbrev over : Meaning → Meaning
  over = layer limit policy start

  -- the same step under the layer
  abbrev lifted : Step ℕ → Step ℕ
  lifted t = record { outcome = t.outcome; after = over t.after }

  -- under the layer, and then a policy's answer
  abbrev pub moved : (ℕ → Outcome ℕ) → Step ℕ → Step ℕ
  moved f t = record { outcome = outcome_then t.outcome f; after = over t.after }

  -- what the policy says of an offset here, and whether that fits
  abbrev pub refitted : ℕ → Outcome ℕ
  refitted x = outcome_then (policy.offset (m.id - start) x) (offset_number limit)

  fixed_over : (n : ℕ) → fixed_number n (over m) ≡ lifted (fixed_number n m)
  fixed_over n = grind arith

  sized_over : (f s : ℕ) → sized_number f s (over m) ≡ lifted (sized_number f s m)
  sized_over f s = let e = fixed_over s in grind arith

  fitted_by : (o : Outcome ℕ) (a : Meaning) → step_then (lifted (record { outcome = o; after = a })) (offset_step limit) ≡ lifted (step_then (record { outcome = o; after = a }) (offset_step limit))
  fitted_by (answer x) a = refl
  fitted_by (fault e) a = refl

  fitted_over : (t : Step ℕ) → step_then (lifted t) (offset_step limit) ≡ lifted (step_then t (offset_step limit))
  fitted_over t = fitted_by t.outcome t.after

  -- relocation of any kind: the reader's own, and then the policy's
  relocated_by : (f : ℕ → ℕ → Outcome ℕ) (h : ℕ → Outcome ℕ) (o : Outcome ℕ) (a : Meaning) → step_then (lifted (record { outcome = o; after = a })) (relocation_step (λ i v. outcome_then (f i v) h) m) ≡ moved h (step_then (record { outcome = o; after = a }) (relocation_step f m))
  relocated_by f h (answer x) a = refl
  relocated_by f h (fault e) a = refl

  relocated_over : (f : ℕ → ℕ → Outcome ℕ) (h : ℕ → Outcome ℕ) (t : Step ℕ) → step_then (lifted t) (relocation_step (λ i v. outcome_then (f i v) h) m) ≡ moved h (step_then t (relocation_step f m))
  relocated_over f h t = relocated_by f h t.outcome t.after

  pub address_layer : (s : ℕ) → address s (over m) ≡ moved (policy.address (m.id - start)) (address s m)
  address_layer s =
      ap (λ t. step_then t (relocation_step (over m).address (over m))) (sized_over 4 s)
      ∙ relocated_over m.address (policy.address (m.id - start)) (sized_number 4 s m)

  pub offset_layer : (w : ℕ) → offset limit w (over m) ≡ moved refitted (offset limit w m)
  offset_layer w =
      ap (λ t. step_then (step_then t (offset_step limit)) (relocation_step (over m).offset (over m))) (fixed_over w)
      ∙ ap (λ t. step_then t (relocation_step (over m).offset (over m))) (fitted_over (fixed_number w m))
      ∙ relocated_over m.offset refitted (word limit w m)

  pub sized_offset_layer : (s : ℕ) → sized_offset limit s (over m) ≡ moved refitted (sized_offset limit s m)
  sized_offset_layer s =
      ap (λ t. step_then (step_then t (offset_step limit)) (relocation_step (over m).offset (over m))) (sized_over 7 s)
      ∙ ap (λ t. step_then t (relocation_step (over m).offset (over m))) (fitted_over (sized_number 7 s m))
      ∙ relocated_over m.offset refitted (sized_word limit s m)
