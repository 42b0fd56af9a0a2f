-- The tuples of a walk one by one: what the first left says of `first`.
use Rattle.std.proofs.Common.{◌≡◌, ℕ, zero, suc, ◌+◌, ◌-◌, ◌*◌, ◌/◌, ◌^◌, ◌<◌, ◌≤◌, Bool, true, false, cond, eqb, ltb, leb, ◌⊎◌, length, take, IsErrAnd, Some, None, Ok, Option, Result, sym, refl, ap, ◌∙◌, subst, inl, inr, ⊎_elim, add_assoc, add-one, arith, length-drop, drop-drop, option_map}
use native.Mathlib.Nat.{div-eq_of_lt, div-eq-sub-div, div-zero, zero-div}
use Rattle.std.proofs.lemmas.Bool.{cases_lt, ne_eqb, and_right}
use Rattle.std.proofs.lemmas.Result.{err_from_is_err_and}
use Rattle.readers.specs.Outcome.{Outcome, Fault, answer, fault}
use Rattle.readers.specs.Reading.{Meaning, Step, step_then, past, no_bytes, address, relocation_step, is_size, gives, refuses, spelt_number}
use Rattle.readers.specs.declared.error.Error.{Error}
use Rattle.readers.specs.Links.{fault_is}
use Rattle.aranges.specs.declared.aranges.ArangeEntry.{ArangeEntry}
use Rattle.aranges.specs.Links.{Drew, told_is, outcome_of, entry_is}
use Rattle.aranges.specs.Tuples.{Kind, raw, converted, Entry, Says, nothing, entry, overflow, refused, Told, found, failed, over, tuple, two, second, pair_step, pair, is_null}
use Rattle.aranges.specs.Iterators.{Left, first, count, draw, next_two, next_says, or_empties}

-- what a joined step was made of
pub then_answered : {A B : Type 0} (o : Outcome A) (a : Meaning) (k : A → Meaning → Step B) (y : B)
    → (step_then (record { outcome = o; after = a }) k).outcome ≡ answer y
    → (x : A) × (o ≡ answer x) × ((k x a).outcome ≡ answer y)
then_answered (answer x) a k y h = (x, refl, h)
then_answered (fault f) a k y h = cc

pub then_faulted : {A B : Type 0} (o : Outcome A) (a : Meaning) (k : A → Meaning → Step B) (f : Fault)
    → (step_then (record { outcome = o; after = a }) k).outcome ≡ fault f
    → (o ≡ fault f) ⊎ ((x : A) × (o ≡ answer x) × ((k x a).outcome ≡ fault f))
then_faulted (answer x) a k f h = inr (x, refl, h)
then_faulted (fault e) a k f h = inl (cc)

pub then_at : {A B : Type 0} (t : Step A) (k : A → Meaning → Step B) (x : A) → t.outcome ≡ answer x → step_then t k ≡ k x t.after
then_at t k x e = rw e

-- an address that is answered takes its bytes
address_by : (z y : Bool) (s v b : ℕ) (m p : Meaning) (f : ℕ → ℕ → Outcome ℕ)
    → (step_then (cond z (cond y (gives v p) (refuses 1 m.id m)) (refuses 4 s m)) (relocation_step f m)).outcome ≡ answer b
    → ((step_then (cond z (cond y (gives v p) (refuses 1 m.id m)) (refuses 4 s m)) (relocation_step f m)).after ≡ p) × (z ≡ true)
address_by true true s v b m p f h = (refl, refl)
address_by true false s v b m p f h = cc
address_by false y s v b m p f h = cc

pub address_answered : (s : ℕ) (m : Meaning) (b : ℕ) → (address s m).outcome ≡ answer b
    → ((address s m).after ≡ past s m) × (is_size s ≡ true)
address_answered s m b h = address_by (is_size s) (leb s (length m.rest)) s (spelt_number m.big (take s m.rest)) b m (past s m) m.address h

pub past_past : (s : ℕ) (m : Meaning) → past s (past s m) ≡ past (2 * s) m
past_past s m = let e : s + s ≡ 2 * s = omega arith in rw (add_assoc m.id s s, drop-drop s s m.rest, e)

abbrev pub tuple_by : Kind → ℕ → Outcome ℕ → Outcome ℕ → Says
tuple_by k s o p = elim o [ answer b ↦ elim p [ answer l ↦ pair k s b l | fault e ↦ refused e ] | fault e ↦ refused e ]

tuple_at : (k : Kind) (s : ℕ) (m : Meaning) (o p : Outcome ℕ) → (address s m).outcome ≡ o → (address s (past s m)).outcome ≡ p → tuple k s m ≡ tuple_by k s o p
tuple_at k s m o p e d = ap (λ (x : Outcome ℕ). tuple_by k s x (address s (past s m)).outcome) e ∙ ap (λ (x : Outcome ℕ). tuple_by k s o x) d

pub same_answer : {A : Type 0} {x y : A} → answer x ≡ answer y → x ≡ y
same_answer e = cc

same_pair : (x y b l : ℕ) → ◌≡◌ {A = Outcome (ℕ × ℕ)} (answer (x, y)) (answer (b, l)) → (x ≡ b) × (y ≡ l)
same_pair x y b l e = (ap (λ (p : ℕ × ℕ). p.0) (same_answer e), ap (λ (p : ℕ × ℕ). p.1) (same_answer e))

pub two_answered : (s : ℕ) (m : Meaning) (b l : ℕ) → (two s m).outcome ≡ answer (b, l)
    → ((two s m).after ≡ past (2 * s) m) × (is_size s ≡ true) × ((k : Kind) → tuple k s m ≡ pair k s b l)
two_answered s m b l h =
    let p = then_answered (address s m).outcome (address s m).after (second s) (b, l) h in
    let q = then_answered (address s (address s m).after).outcome (address s (address s m).after).after (pair_step p.0) (b, l) p.2 in
    let i = address_answered s m p.0 p.1 in
    let j = address_answered s (address s m).after q.0 q.1 in
    let n = same_pair p.0 q.0 b l q.2 in
    let d : (address s (past s m)).outcome ≡ answer q.0 = subst (λ (x : Meaning). (address s x).outcome ≡ answer q.0) i.0 q.1 in (
      ap (λ (x : Step (ℕ × ℕ)). x.after) (then_at (address s m) (second s) p.0 p.1)
          ∙ ap (λ (x : Step (ℕ × ℕ)). x.after) (then_at (address s (address s m).after) (pair_step p.0) q.0 q.1)
          ∙ j.0 ∙ ap (past s) i.0 ∙ past_past s m,
      i.1,
      λ k. tuple_at k s m (answer p.0) (answer q.0) p.1 d ∙ ap (λ (x : ℕ). pair k s x q.0) n.0 ∙ ap (λ (x : ℕ). pair k s b x) n.1,
    )

second_faulted : (o : Outcome ℕ) (a : Meaning) (x : ℕ) (f : Fault) → (step_then (record { outcome = o; after = a }) (pair_step x)).outcome ≡ fault f → o ≡ fault f
second_faulted (answer y) a x f h = cc
second_faulted (fault e) a x f h = cc

two_faulted_by : (s : ℕ) (m : Meaning) (f : Fault) (k : Kind)
    → ((address s m).outcome ≡ fault f) ⊎ ((x : ℕ) × ((address s m).outcome ≡ answer x) × ((second s x (address s m).after).outcome ≡ fault f))
    → tuple k s m ≡ refused f
two_faulted_by s m f k (inl e) = tuple_at k s m (fault f) (address s (past s m)).outcome e refl
two_faulted_by s m f k (inr (x, e, d)) =
    let i = address_answered s m x e in
    let q : (address s (address s m).after).outcome ≡ fault f = second_faulted (address s (address s m).after).outcome (address s (address s m).after).after x f d in
    tuple_at k s m (answer x) (fault f) e (subst (λ (y : Meaning). (address s y).outcome ≡ fault f) i.0 q)

pub two_faulted : (s : ℕ) (m : Meaning) (f : Fault) → (two s m).outcome ≡ fault f → (k : Kind) → tuple k s m ≡ refused f
two_faulted s m f h k = two_faulted_by s m f k (then_faulted (address s m).outcome (address s m).after (second s) f h)

-- how many tuples are left
count_none : (s : ℕ) (m : Meaning) → length m.rest < 2 * s → count s m ≡ 0
count_none s m h = div-eq_of_lt h

count_more : (s : ℕ) (m : Meaning) → 0 < 2 * s → 2 * s ≤ length m.rest → count s m ≡ suc (count s (past (2 * s) m))
count_more s m z h = div-eq-sub-div z h ∙ rw (length-drop, add-one)

pub none_left : (s : ℕ) (m : Meaning) → (s ≡ 0) ⊎ (length m.rest < 2 * s) → count s m ≡ 0
none_left s m (inl z) = ap (λ (n : ℕ). length m.rest / (2 * n)) z ∙ div-zero (length m.rest)
none_left s m (inr h) = count_none s m h

pub none_emptied : (s : ℕ) (m : Meaning) → count s (no_bytes m) ≡ 0
none_emptied s m = zero-div (2 * s)

pub counted : (s n : ℕ) (m : Meaning) → count s m ≡ suc n → (0 < 2 * s) × (2 * s ≤ length m.rest) × (count s (past (2 * s) m) ≡ n)
counted s n m e =
    let z : 0 < 2 * s = ⊎_elim (λ z. z) (λ z. let q = none_left s m (inl (omega arith)) in absurd (omega arith)) (cases_lt 0 (2 * s)) in
    let h : 2 * s ≤ length m.rest = ⊎_elim (λ h. let q = none_left s m (inr h) in absurd (omega arith)) (λ h. h) (cases_lt (length m.rest) (2 * s)) in
    let q = count_more s m z h in
    (z, h, omega arith)

abbrev pub left : ℕ → Meaning → Left
left s m = record { size = s; tuples = m }

-- the reader behind a tuple that says x
abbrev pub behind : ℕ → Meaning → Says → Meaning
behind s m nothing = past (2 * s) m
behind s m (entry e) = past (2 * s) m
behind s m overflow = past (2 * s) m
behind s m (refused f) = no_bytes (two s m).after

behind_pair : (k : Kind) (s b l : ℕ) (m : Meaning) → behind s m (pair k s b l) ≡ past (2 * s) m
behind_pair raw s b l m = go (is_null b l)
  where
    go : (x : Bool) → behind s m (cond x nothing (entry (record { begin = b; end = 0; length = l }))) ≡ past (2 * s) m
    go true = refl
    go false = refl
behind_pair converted s b l m = go (is_null b l) (leb (2 ^ (8 * s) - 2) b) (ltb (b + l) (2 ^ (8 * s)))
  where
    go : (x y z : Bool) → behind s m (cond x nothing (cond y nothing (cond z (entry (record { begin = b; end = b + l; length = l })) overflow))) ≡ past (2 * s) m
    go true y z = refl
    go false true z = refl
    go false false true = refl
    go false false false = refl

abbrev emptied_at : {A : Type 0} → Outcome A → Meaning → Step (Option A)
emptied_at o a = or_empties (record { outcome = o; after = a })

-- what a tuple says, by its two addresses
abbrev pub says_of : Kind → ℕ → Outcome (Option (ℕ × ℕ)) → Option Says
says_of k s (answer None) = None
says_of k s (answer (Some (b, l))) = Some (pair k s b l)
says_of k s (fault f) = Some (refused f)

pub two_none : (s : ℕ) (m : Meaning) → count s m ≡ 0 → next_two s m ≡ gives None (no_bytes m)
two_none s m c = rw c refl

not_none : (s n : ℕ) (m : Meaning) → count s m ≡ suc n → eqb (count s m) 0 ≡ false
not_none s n m c = ne_eqb (count s m) 0 (λ e. omega arith)

module _ (k : Kind) (s : ℕ) (m : Meaning) where
  pub nothing_left : count s m ≡ 0 → (next_says k s m ≡ None) × (next_two s m ≡ gives None (no_bytes m))
  nothing_left c = (rw c refl, two_none s m c)

  pub tuple_left : (n : ℕ) → count s m ≡ suc n → (next_says k s m ≡ Some (tuple k s m)) × (next_two s m ≡ or_empties (two s m))
  tuple_left n c = let e = not_none s n m c in (rw e refl, rw e refl)

  -- the next tuple, once it is read
  pub tuple_read : (o : Outcome (ℕ × ℕ)) → (two s m).outcome ≡ o
      → (Some (tuple k s m) ≡ says_of k s (or_empties (two s m)).outcome) × ((or_empties (two s m)).after ≡ behind s m (tuple k s m))
  tuple_read (answer (b, l)) e =
      let t = two_answered s m b l e in
      let p : tuple k s m ≡ pair k s b l = t.2 k in (
        ap Some p ∙ sym (ap (λ (o : Outcome (ℕ × ℕ)). says_of k s (emptied_at o (two s m).after).outcome) e),
        ap (λ (o : Outcome (ℕ × ℕ)). (emptied_at o (two s m).after).after) e ∙ t.0 ∙ sym (ap (behind s m) p ∙ behind_pair k s b l m),
      )
  tuple_read (fault f) e =
      let p : tuple k s m ≡ refused f = two_faulted s m f e k in (
        ap Some p ∙ sym (ap (λ (o : Outcome (ℕ × ℕ)). says_of k s (emptied_at o (two s m).after).outcome) e),
        ap (λ (o : Outcome (ℕ × ℕ)). (emptied_at o (two s m).after).after) e ∙ sym (ap (behind s m) p),
      )

  says_two_by : (n : ℕ) → count s m ≡ n → next_says k s m ≡ says_of k s (next_two s m).outcome
  says_two_by zero c = let p = nothing_left c in rw (p.0, p.1) refl
  says_two_by (suc n) c = let p = tuple_left n c in rw (p.0, p.1) (tuple_read (two s m).outcome refl).0

  pub says_two : next_says k s m ≡ says_of k s (next_two s m).outcome
  says_two = says_two_by (count s m) refl

pub raw_null : (s b l : ℕ) → b ≡ 0 → l ≡ 0 → pair raw s b l ≡ nothing
raw_null s b l p q = rw (p, q) refl

pub raw_entry : (s b l : ℕ) → (b ≡ 0 → ⊥) ⊎ ((b ≡ 0) × (l ≡ 0 → ⊥)) → pair raw s b l ≡ entry (record { begin = b; end = 0; length = l })
raw_entry s b l (inl n) = rw (ne_eqb b 0 n) refl
raw_entry s b l (inr p) = rw (and_right (eqb b 0) (eqb l 0) (ne_eqb l 0 p.1)) refl

-- only a size of addresses gives a tuple
sized_by : (s : ℕ) (m : Meaning) (b l : ℕ) (o : Outcome (ℕ × ℕ)) → (two s m).outcome ≡ o → (emptied_at o (two s m).after).outcome ≡ answer (Some (b, l)) → is_size s ≡ true
sized_by s m b l (answer (x, y)) e h = (two_answered s m x y e).1
sized_by s m b l (fault f) e h = cc

no_none : {A P : Type 0} (x : A) → ◌≡◌ {A = Outcome (Option A)} (answer None) (answer (Some x)) → P
no_none x e = cc

sized : (s n : ℕ) (m : Meaning) (b l : ℕ) → count s m ≡ n → (next_two s m).outcome ≡ answer (Some (b, l)) → is_size s ≡ true
sized s zero m b l c h = no_none (b, l) (sym (ap (λ (t : Step (Option (ℕ × ℕ))). t.outcome) (two_none s m c)) ∙ h)
sized s (suc n) m b l c h = sized_by s m b l (two s m).outcome refl (sym (ap (λ (t : Step (Option (ℕ × ℕ))). t.outcome) (tuple_left raw s m n c).1) ∙ h)

-- what was read of a tuple
pub says_read : (k : Kind) (s : ℕ) (m : Meaning) (o : Option (ℕ × ℕ)) (b l : ℕ) → o ≡ Some (b, l) → answer o ≡ (next_two s m).outcome
    → (Some (pair k s b l) ≡ next_says k s m) × (is_size s ≡ true)
says_read k s m o b l p d =
    let q : (next_two s m).outcome ≡ answer (Some (b, l)) = sym d ∙ ap answer p in
    (sym (says_two k s m ∙ ap (says_of k s) q), sized s (count s m) m b l refl q)

pub says_refused : (k : Kind) (s : ℕ) (m : Meaning) (f : Fault) → fault f ≡ (next_two s m).outcome → Some (refused f) ≡ next_says k s m
says_refused k s m f e = ap (says_of k s) e ∙ sym (says_two k s m)

-- what a call of next or next raw comes to once a tuple gave o, which leaves a
abbrev pub draw_by : Kind → Left → Option (Outcome (Option Entry)) → Told × Left
draw_by k a None = (over, a)
draw_by k a (Some (answer None)) = draw k a
draw_by k a (Some (answer (Some e))) = (found e, a)
draw_by k a (Some (fault f)) = (failed f, a)

abbrev as_left : ℕ → Told × Meaning → Told × Left
as_left s r = (r.0, left s r.1)

-- what `first` is by what the first tuple left says
abbrev pub first_by : Kind → ℕ → ℕ → Meaning → Says → Told × Meaning
first_by k s n m nothing = first k s n (past (2 * s) m)
first_by k s n m (entry e) = (found e, past (2 * s) m)
first_by k s n m overflow = (failed (record { number = 10; payload = 0 }), past (2 * s) m)
first_by k s n m (refused f) = (failed f, no_bytes (two s m).after)

first_said : (k : Kind) (s n : ℕ) (m : Meaning) → count s (past (2 * s) m) ≡ n → (x : Says)
    → as_left s (first_by k s n m x) ≡ draw_by k (left s (behind s m x)) (Some (outcome_of x))
first_said k s n m c nothing = rw (← c) refl
first_said k s n m c (entry e) = refl
first_said k s n m c overflow = refl
first_said k s n m c (refused f) = refl

draw_next_by : (k : Kind) (s n : ℕ) (m : Meaning) → count s m ≡ n
    → draw k (left s m) ≡ draw_by k (left s (next_two s m).after) (option_map outcome_of (next_says k s m))
draw_next_by k s zero m c = let p = nothing_left k s m c in rw (p.0, p.1, c) refl
draw_next_by k s (suc n) m c =
    let p = tuple_left k s m n c in
    let q = tuple_read k s m (two s m).outcome refl in
    rw (p.0, p.1, q.1, c) (first_said k s n m (counted s n m c).2 (tuple k s m))

draw_next : (k : Kind) (s : ℕ) (m : Meaning) → draw k (left s m) ≡ draw_by k (left s (next_two s m).after) (option_map outcome_of (next_says k s m))
draw_next k s m = draw_next_by k s (count s m) m refl

behind_shorter : (s : ℕ) (m : Meaning) → 0 < 2 * s → 2 * s ≤ length m.rest → (x : Says) → length (behind s m x).rest < length m.rest
behind_shorter s m z h nothing = omega (arith, length-drop (2 * s) m.rest)
behind_shorter s m z h (entry e) = omega (arith, length-drop (2 * s) m.rest)
behind_shorter s m z h overflow = omega (arith, length-drop (2 * s) m.rest)
behind_shorter s m z h (refused f) = omega arith

shorter_by : (k : Kind) (s n : ℕ) (m : Meaning) → count s m ≡ n → (length (next_two s m).after.rest < length m.rest) ⊎ (next_says k s m ≡ None)
shorter_by k s zero m c = inr (nothing_left k s m c).0
shorter_by k s (suc n) m c =
    let t = counted s n m c in
    inl (rw ((tuple_left k s m n c).1, (tuple_read k s m (two s m).outcome refl).1) (behind_shorter s m t.0 t.1 (tuple k s m)))

-- the next tuple gave o and left a
pub record Drawn (k : Kind) (s : ℕ) (m a : Meaning) (o : Outcome (Option Entry)) : Type 0 where
  pub draws : draw k (left s m) ≡ draw_by k (left s a) (Some o)
  pub shorter : length a.rest < length m.rest

drawn_by : (k : Kind) (s : ℕ) (m : Meaning) (o : Outcome (Option Entry)) → (length (next_two s m).after.rest < length m.rest) ⊎ (next_says k s m ≡ None)
    → Some o ≡ option_map outcome_of (next_says k s m) → Drawn k s m (next_two s m).after o
drawn_by k s m o (inl h) p = record { draws = draw_next k s m ∙ ap (draw_by k (left s (next_two s m).after)) (sym p); shorter = h }
drawn_by k s m o (inr n) p = let q : Some o ≡ None = p ∙ ap (option_map outcome_of) n in cc

pub drawn : (k : Kind) (s : ℕ) (m a : Meaning) (o : Outcome (Option Entry)) → a ≡ (next_two s m).after → Some o ≡ option_map outcome_of (next_says k s m) → Drawn k s m a o
drawn k s m a o e p = rw e (drawn_by k s m o (shorter_by k s (count s m) m refl) p)

-- a call that began at l0 and came to m ends with what its tuple gave, or goes on
module _ (k : Kind) (s t : ℕ) (m a : Meaning) (l0 : Left) (q : t ≡ s) (i : draw k (left s m) ≡ draw k l0) where
  ends_by : (u : Told) → draw k (left s m) ≡ (u, left s a) → (r : Result (Option ArangeEntry) Error) → told_is r ≡ u → Drew r (left t a) (draw k l0)
  ends_by u e r h =
      let p : (told_is r, left s a) ≡ draw k l0 = ap (λ (x : Told). (x, left s a)) h ∙ sym e ∙ i in
      record { answers = ap (λ (x : Told × Left). x.0) p; leaves = ap (λ (n : ℕ). left n a) q ∙ ap (λ (x : Told × Left). x.1) p }

  pub ends_found : (e : ArangeEntry) → Drawn k s m a (answer (Some (entry_is e))) → Drew (Ok (Some e)) (left t a) (draw k l0)
  ends_found e d = ends_by (found (entry_is e)) d.draws (Ok (Some e)) refl

  pub ends_fault : (r : Result (Option ArangeEntry) Error) (x : Error) → IsErrAnd r (λ y. y ≡ x) → Drawn k s m a (fault (fault_is x)) → Drew r (left t a) (draw k l0)
  ends_fault r x by d = let p = err_from_is_err_and r by in ends_by (failed (fault_is x)) d.draws r (rw (p.1, p.2) refl)

-- a null pair, or one of code that is not there, is passed
pub goes_on : (k : Kind) (s : ℕ) (m a : Meaning) (l0 : Left) → draw k (left s m) ≡ draw k l0 → Drawn k s m a (answer None) → draw k (left s a) ≡ draw k l0
goes_on k s m a l0 i d = sym d.draws ∙ i
