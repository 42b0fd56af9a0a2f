-- A visit of a section, tuple by tuple and set by set.
use Rattle.std.proofs.Common.{◌≡◌, ℕ, zero, suc, ◌+◌, ◌-◌, ◌*◌, ◌≤◌, Bool, true, false, List, [], ◌∷◌, ◌++◌, length, Some, None, Option, Result, Ok, Err, ControlFlow, Break, Continue, sym, refl, ap, ◌∙◌, add-one, arith, option_map}
use Rattle.std.specs.Result.{result_transpose}
use Rattle.readers.specs.declared.error.Error.{Error}
use Rattle.readers.specs.Outcome.{Outcome, answer, fault, fault_by}
use Rattle.readers.specs.Reading.{Meaning, past, no_bytes}
use Rattle.readers.specs.Links.{Did, outcome_is}
use Rattle.aranges.specs.Sets.{Header}
use Rattle.aranges.specs.Tuples as says
use Rattle.aranges.specs.Tuples.{converted, Entry, Says, nothing, entry, overflow, refused, two}
use Rattle.aranges.specs.Iterators.{Left, count, next_two, next_says, next_set}
use Rattle.aranges.specs.declared.aranges.ArangeEntry.{ArangeEntry}
use Rattle.aranges.specs.Links.{outcome_of, entry_is, is_break}
use Rattle.aranges.specs.Answers.{Answer, Item, answer_at, answers_from, answers_left, tuple_readers, items_by, items_from, items_on, Shown, end, goes_on, stops}
use Rattle.aranges.proofs.Draws.{left, behind, counted, none_emptied, nothing_left, tuple_left, tuple_read}
use Rattle.aranges.proofs.Alone.{tuple_alone}
use Rattle.aranges.proofs.Shorter.{next_shorter, next_none}

-- the answers of a set from a tuple on that gave o and left a
abbrev pub answers_by : Header → ℕ → Meaning → Left → Outcome (Option Entry) → List Answer
answers_by h n t a (answer None) = answers_left h (suc n) a
answers_by h n t a (answer (Some e)) = answer_at h n t (answer e) ∷ answers_left h (suc n) a
answers_by h n t a (fault f) = answer_at h n t (fault f) ∷ answers_left h (suc n) a

module _ (h : Header) (n s k : ℕ) (m : Meaning) where
  -- the same by what the tuple says
  abbrev answers_said : Says → List Answer
  answers_said nothing = answers_from h s (suc n) (tuple_readers k s (past (2 * s) m))
  answers_said (entry e) = answer_at h n m (answer e) ∷ answers_from h s (suc n) (tuple_readers k s (past (2 * s) m))
  answers_said overflow = answer_at h n m (fault (fault_by 10 0)) ∷ answers_from h s (suc n) (tuple_readers k s (past (2 * s) m))
  answers_said (refused f) = answer_at h n m (fault f) ∷ []

  said_so : count s (past (2 * s) m) ≡ k → (x : Says) → answers_said x ≡ answers_by h n m (left s (behind s m x)) (outcome_of x)
  said_so c nothing = rw (← c) refl
  said_so c (entry e) = rw (← c) refl
  said_so c overflow = rw (← c) refl
  said_so c (refused f) =
      ap (λ (j : ℕ). answer_at h n m (fault f) ∷ answers_from h s (suc n) (tuple_readers j s (no_bytes (two s m).after))) (sym (none_emptied s (two s m).after))

more_by : (h : Header) (n s k : ℕ) (m : Meaning) (o : Outcome (Option Entry)) → count s m ≡ k → Some o ≡ option_map outcome_of (next_says converted s m)
    → answers_left h n (left s m) ≡ answers_by h n m (left s (next_two s m).after) o
more_by h n s zero m o c p = let q : Some o ≡ None = p ∙ ap (option_map outcome_of) (nothing_left converted s m c).0 in cc
more_by h n s (suc k) m o c p =
    let t = counted s k m c in
    let v = tuple_left converted s m k c in
    let e : o ≡ outcome_of (says.tuple converted s m) = same_some (p ∙ ap (option_map outcome_of) v.0) in
    rw (v.1, (tuple_read converted s m (two s m).outcome refl).1, c, e)
    (ap (answers_said h n s k m) (tuple_alone converted s m t.1) ∙ said_so h n s k m t.2 (says.tuple converted s m))
  where
    same_some : {A : Type 0} {x y : A} → Some x ≡ Some y → x ≡ y
    same_some e = cc

-- the same, once code has read the tuple and has r of it
module _ (h : Header) (n s : ℕ) (m a : Meaning) (r : Result (Option ArangeEntry) Error) (d : a ≡ (next_two s m).after)
    (p : Some (outcome_is (option_map entry_is) r) ≡ option_map outcome_of (next_says converted s m)) where
  answers_more : answers_left h n (left s m) ≡ answers_by h n m (left s a) (outcome_is (option_map entry_is) r)
  answers_more = rw d (more_by h n s (count s m) m (outcome_is (option_map entry_is) r) refl p)

  pub answers_next : (i : ℕ) (y : Result ArangeEntry Error) → i ≡ m.id → Some y ≡ result_transpose r
      → answers_left h n (left s m) ≡ record { set = h; number = n; id = i; outcome = outcome_is entry_is y } ∷ answers_left h (n + 1) (left s a)
  answers_next i y q t = answers_more ∙ rw (q, add-one) (go r t)
    where
      go : (r : Result (Option ArangeEntry) Error) → Some y ≡ result_transpose r
          → answers_by h n m (left s a) (outcome_is (option_map entry_is) r) ≡ answer_at h n m (outcome_is entry_is y) ∷ answers_left h (suc n) (left s a)
      go (Ok (Some x)) t = let q : y ≡ Ok x = cc in rw q refl
      go (Ok None) t = cc
      go (Err x) t = let q : y ≡ Err x = cc in rw q refl

  pub answers_passed : None ≡ result_transpose r → answers_left h n (left s m) ≡ answers_left h (n + 1) (left s a)
  answers_passed t = answers_more ∙ rw add-one (go r t)
    where
      go : (r : Result (Option ArangeEntry) Error) → None ≡ result_transpose r → answers_by h n m (left s a) (outcome_is (option_map entry_is) r) ≡ answers_left h (suc n) (left s a)
      go (Ok (Some x)) t = cc
      go (Ok None) t = refl
      go (Err x) t = cc

-- to be shown the items ys from v on is to be shown xs from v0 on
pub record Leads {V : Type 0} (visits : V → Item → Bool → V → Type 0) (v0 : V) (xs : List Item) (v : V) (ys : List Item) : Type 0 where
  pub leads : {b : Bool} {u : V} → Shown visits v ys b u → Shown visits v0 xs b u

module _ {V : Type 0} {visits : V → Item → Bool → V → Type 0} {v0 v : V} {xs ys : List Item} (l : Leads visits v0 xs v ys) where
  pub leads_end : ys ≡ [] → Shown visits v0 xs false v
  leads_end e = l.leads (rw e end)

  pub leads_stop : {w : V} {y : Item} {zs : List Item} (f r : ControlFlow (Unit {0}) (Unit {0})) → ys ≡ y ∷ zs → f ≡ Break tt → r ≡ Break tt → visits v y (is_break f) w → Shown visits v0 xs (is_break r) w
  leads_stop f r e p t q = rw t (l.leads (rw e (stops (rw p at q))))

  pub leads_on : {w : V} {y : Item} {zs : List Item} (f : ControlFlow (Unit {0}) (Unit {0})) → ys ≡ y ∷ zs → f ≡ Continue tt → visits v y (is_break f) w → Leads visits v0 xs w zs
  leads_on f e p q = record { leads = λ s. l.leads (rw e (goes_on (rw p at q) s)) }

  pub leads_last : {w : V} {y : Item} (b : Bool) → ys ≡ y ∷ [] → visits v y b w → Shown visits v0 xs b w
  leads_last true e q = l.leads (rw e (stops q))
  leads_last false e q = l.leads (rw e (goes_on q end))

  pub leads_past : {zs : List Item} → ys ≡ zs → Leads visits v0 xs v zs
  leads_past e = rw (← e) l

-- the same of a row of items
module _ {V : Type 0} {visits : V → Item → Bool → V → Type 0} (us : List Item) where
  row_stop : {v w : V} {zs : List Item} → Shown visits v zs true w → Shown visits v (zs ++ us) true w
  row_stop (goes_on q s) = goes_on q (row_stop s)
  row_stop (stops q) = stops q

  row : {v w : V} {zs : List Item} {b : Bool} {u : V} → Shown visits v zs false w → Shown visits w us b u → Shown visits v (zs ++ us) b u
  row end s = s
  row (goes_on q t) s = goes_on q (row t s)

  pub leads_row_stop : {v0 v w : V} {xs : List Item} (zs : List Item) (f r : ControlFlow (Unit {0}) (Unit {0})) → Leads visits v0 xs v (zs ++ us) → f ≡ Break tt → r ≡ Break tt
      → Shown visits v zs (is_break f) w → Shown visits v0 xs (is_break r) w
  leads_row_stop zs f r l p t q = rw t (l.leads (row_stop (rw p at q)))

  pub leads_row : {v0 v w : V} {xs : List Item} (zs : List Item) (f : ControlFlow (Unit {0}) (Unit {0})) → Leads visits v0 xs v (zs ++ us) → f ≡ Continue tt
      → Shown visits v zs (is_break f) w → Leads visits v0 xs w us
  leads_row zs f l p q = record { leads = λ s. l.leads (row (rw p at q) s) }

-- enough fuel is as good as any
module _ (limit b : ℕ) where
  items_empty : (n : ℕ) (m : Meaning) → length m.rest ≡ 0 → items_from limit b n m ≡ []
  items_empty zero m z = refl
  items_empty (suc n) m z =
      ap (λ (o : Outcome (Option Header)). items_by (m.id - b) o (λ _. items_from limit b n (next_set limit b m).after)) (next_none limit b m z)

  items_same : (p : ℕ) (o : Outcome (Option Header)) (j k : Unit {0} → List Item) → ((h : Header) → o ≡ answer (Some h) → j tt ≡ k tt) → items_by p o j ≡ items_by p o k
  items_same p (answer None) j k q = refl
  items_same p (answer (Some h)) j k q = ap (λ (v : List Item). items_on h ++ v) (q h refl)
  items_same p (fault f) j k q = refl

  items_fuel : (n k : ℕ) (m : Meaning) → length m.rest ≤ n → length m.rest ≤ k → items_from limit b n m ≡ items_from limit b k m
  items_fuel zero k m p q = sym (items_empty k m (omega arith))
  items_fuel (suc n) zero m p q = items_empty (suc n) m (omega arith)
  items_fuel (suc n) (suc k) m p q =
      items_same (m.id - b) (next_set limit b m).outcome (λ _. items_from limit b n (next_set limit b m).after) (λ _. items_from limit b k (next_set limit b m).after)
      (λ h e. let s = next_shorter limit b m h e in items_fuel n k (next_set limit b m).after (omega arith) (omega arith))

  -- the items with fuel enough, one set on
  abbrev pub items_all : Meaning → List Item
  items_all m = items_from limit b (length m.rest) m

  pub items_step : (m : Meaning) → items_all m ≡ items_by (m.id - b) (next_set limit b m).outcome (λ _. items_all (next_set limit b m).after)
  items_step m =
      items_fuel (length m.rest) (suc (length m.rest)) m (omega arith) (omega arith)
      ∙ items_same (m.id - b) (next_set limit b m).outcome (λ _. items_from limit b (length m.rest) (next_set limit b m).after) (λ _. items_all (next_set limit b m).after)
      (λ h e. let s = next_shorter limit b m h e in items_fuel (length m.rest) (length (next_set limit b m).after.rest) (next_set limit b m).after (omega arith) (omega arith))

  -- the same, once code has called next, which answered r and left a
  pub items_next : {A : Type 0} (f : A → Header) (i p : ℕ) (m a : Meaning) (r : Result (Option A) Error) → i ≡ b → p ≡ m.id - i → Did (option_map f) r a (next_set limit i m)
      → items_all m ≡ items_by p (outcome_is (option_map f) r) (λ _. items_all a)
  items_next f i p m a r q e d =
      let s : items_by (m.id - b) (next_set limit b m).outcome (λ _. items_all (next_set limit b m).after) ≡ items_by p (outcome_is (option_map f) r) (λ _. items_all a) =
      rw (e, d.answers, d.leaves, q) refl in
      items_step m ∙ s
