-- A header rests on its own bytes: where they stand again, the same header is read.
use Rattle.std.proofs.Common.{◌≡◌, ℕ, ◌+◌, ◌≤◌, Bool, true, false, cond, ◌||◌, eqb, ltb, leb, List, [], ◌++◌, length, take, drop, sym, refl, ap, ◌∙◌, subst, arith, length-append}
use Rattle.std.proofs.lemmas.List.{append_assoc, take_at, drop_at, take-append-drop, length-take-le}
use Rattle.std.proofs.lemmas.Bool.{leb-true, le-leb}
use Rattle.readers.specs.Outcome.{Outcome, answer, fault_of}
use Rattle.readers.specs.Reading.{Meaning, Step, at, past, gives, refuses, step_then, byte_step, spelt_number, fixed_number, is_size, offset_number, offset_step, word, offset, skip_step, split_step, length_size}
use Rattle.numbers.specs.Numbers.{Initial, initial, size_of_addresses}
use Rattle.aranges.specs.Sets.{Header, span, padding, fields, version, sizes, set_step}
use Rattle.aranges.proofs.Draws.{then_answered, same_answer}

-- the same header with other tuples
abbrev pub retuple : Header → Meaning → Header
retuple h t = record { place = h.place; length = h.length; word = h.word; version = h.version; size = h.size; info = h.info; tuples = t }

abbrev plain : {A : Type 0} → A → Meaning → A
plain z a = z

-- All readers here are m with other bytes at another id.
module _ (m : Meaning) where
  -- a read that answered z took the bytes `taken`, and where they stand in front of others it answers z again;
  -- lift says how the answer hangs on the reader after it
  record Got {A : Type 0} (lift : A → Meaning → A) (P : ℕ → A → Type 0) (f : ℕ → List ℕ → Step A) (i : ℕ) (bs : List ℕ) (z : A) : Type 0 where
    taken : List ℕ
    left : List ℕ
    bytes : bs ≡ taken ++ left
    good : P (length taken) z
    again : (cs : List ℕ) → f i (taken ++ cs) ≡ gives (lift z (at (i + length taken) cs m)) (at (i + length taken) cs m)

  abbrev Local : {A : Type 0} → (A → Meaning → A) → (ℕ → A → Type 0) → (Meaning → Step A) → Type 0
  Local {A} lift P f = (i : ℕ) (bs : List ℕ) (z : A) → (f (at i bs m)).outcome ≡ answer z → Got lift P (λ j cs. f (at j cs m)) i bs z

  abbrev Any : {A : Type 0} → ℕ → A → Type 0
  Any n z = Unit {0}

  -- one read after another
  both : {A B : Type 0} (lift : B → Meaning → B) (Q : ℕ → A → Type 0) (P : ℕ → B → Type 0) (f : Meaning → Step A) (g : ℕ → A → Meaning → Step B)
      → Local plain Q f → ((i : ℕ) (x : A) (n : ℕ) → Q n x → Local lift (λ k y. P (n + k) y) (g i x)) → Local lift P (λ a. step_then (f a) (g a.id))
  both {A} {B} lift Q P f g lf lg i bs z e =
      let p = then_answered (f (at i bs m)).outcome (f (at i bs m)).after (g i) z e in
      let a : Got plain Q (λ j cs. f (at j cs m)) i bs p.0 = lf i bs p.0 p.1 in
      let n : ℕ = length a.taken in
      let s : f (at i bs m) ≡ gives p.0 (at (i + n) a.left m) = ap (λ (v : List ℕ). f (at i v m)) a.bytes ∙ a.again a.left in
      let b : Got lift (λ k y. P (n + k) y) (λ j cs. g i p.0 (at j cs m)) (i + n) a.left z = lg i p.0 n a.good (i + n) a.left z (subst (λ (v : Step A). (g i p.0 v.after).outcome ≡ answer z) s p.2) in
      let l : n + length b.taken ≡ length (a.taken ++ b.taken) = sym (length-append a.taken b.taken) in
      let j : (i + n) + length b.taken ≡ i + length (a.taken ++ b.taken) = omega arith in
      record {
        taken = a.taken ++ b.taken;
        left = b.left;
        bytes = a.bytes ∙ (ap (λ (v : List ℕ). a.taken ++ v) b.bytes ∙ sym (append_assoc a.taken b.taken b.left));
        good = subst (λ (k : ℕ). P k z) l b.good;
        again = λ cs. rw (append_assoc a.taken b.taken cs, a.again (b.taken ++ cs), b.again cs, j);
      }

  local_cond : {A : Type 0} (lift : A → Meaning → A) (P : ℕ → A → Type 0) (b : Bool) (f g : Meaning → Step A) → Local lift P f → Local lift P g → Local lift P (λ a. cond b (f a) (g a))
  local_cond lift P true f g x y i bs z e = x i bs z e
  local_cond lift P false f g x y i bs z e = y i bs z e

  -- a read that takes no bytes
  local_pure : {A : Type 0} (P : ℕ → A → Type 0) (o : Outcome A) → ((z : A) → o ≡ answer z → P 0 z) → Local plain P (λ a. record { outcome = o; after = a })
  local_pure {A} P o p i bs z e = record {
    taken = [];
    left = bs;
    bytes = refl;
    good = p z e;
    again = λ cs. let j : i + 0 ≡ i = omega arith in rw (e, j);
  }

  local_gives : {A : Type 0} (P : ℕ → A → Type 0) (x : A) → P 0 x → Local plain P (gives x)
  local_gives P x p = local_pure P (answer x) (λ z e. subst (λ y. P 0 y) (same_answer e) p)

  -- one that takes n bytes and answers by them
  local_taking : {A : Type 0} (n : ℕ) (v : List ℕ → A) → Local plain (λ k z. k ≡ n) (λ a. byte_step n a (gives (v (take n a.rest)) (past n a)))
  local_taking {A} n v i bs z e = go (leb n (length bs)) refl e
    where
      go : (b : Bool) → leb n (length bs) ≡ b → (cond b (gives (v (take n bs)) (at (i + n) (drop n bs) m)) (refuses 1 i (at i bs m))).outcome ≡ answer z
          → Got plain (λ k z. k ≡ n) (λ j cs. byte_step n (at j cs m) (gives (v (take n cs)) (at (j + n) (drop n cs) m))) i bs z
      go false p q = cc
      go true p q =
          let l : length (take n bs) ≡ n = length-take-le n bs (leb-true n (length bs) p) in
          let x : v (take n bs) ≡ z = same_answer q in
          record {
            taken = take n bs;
            left = drop n bs;
            bytes = sym (take-append-drop n bs);
            good = l;
            again = λ cs.
                let k : leb n (length (take n bs ++ cs)) ≡ true = le-leb n (length (take n bs ++ cs)) (omega (arith, length-append (take n bs) cs, l)) in
                rw (k, take_at (take n bs) cs n l, drop_at (take n bs) cs n l, x, l);
          }

  local_word : (limit w : ℕ) → Local plain (λ k z. k ≡ w) (word limit w)
  local_word limit w =
      both plain (λ k z. k ≡ w) (λ k z. k ≡ w) (fixed_number w) (λ i. offset_step limit) (local_taking w (spelt_number m.big))
      (λ i x n q. local_pure (λ k z. n + k ≡ w) (offset_number limit x) (λ z e. omega arith))

  local_offset : (limit w : ℕ) → Local plain Any (offset limit w)
  local_offset limit w =
      both plain (λ k z. k ≡ w) Any (word limit w) (λ i n a. record { outcome = m.offset i n; after = a }) (local_word limit w)
      (λ i x n q. local_pure Any (m.offset i x) (λ z e. tt))

  abbrev Leads : ℕ → Initial → Type 0
  Leads k i = k ≡ length_size i.word

  abbrev long : ℕ → Meaning → Step Initial
  long limit a = step_then (word limit 8 a) (λ l b. gives (record { length = l; word = 8 }) b)

  -- the initial length takes what length_size says
  local_initial : (limit : ℕ) → Local plain Leads (initial limit)
  local_initial limit =
      both plain (λ k z. k ≡ 4) Leads (fixed_number 4)
      (λ _ v a. cond (ltb v 0xffff_fff0) (gives (record { length = v; word = 4 }) a) (cond (eqb v 0xffff_ffff) (long limit a) (refuses 2 v a)))
      (local_taking 4 (spelt_number m.big))
      (λ i v n q.
      local_cond plain (λ k. Leads (n + k)) (ltb v 0xffff_fff0) (gives (record { length = v; word = 4 })) (λ a. cond (eqb v 0xffff_ffff) (long limit a) (refuses 2 v a))
      (local_gives (λ k. Leads (n + k)) (record { length = v; word = 4 }) (omega arith))
      (local_cond plain (λ k. Leads (n + k)) (eqb v 0xffff_ffff) (long limit) (refuses 2 v)
      (both plain (λ k z. k ≡ 8) (λ k. Leads (n + k)) (word limit 8) (λ _ l. gives (record { length = l; word = 8 })) (local_word limit 8)
      (λ j l k r. local_gives (λ u. Leads (n + (k + u))) (record { length = l; word = 8 }) (omega arith)))
      (local_pure (λ k. Leads (n + k)) (fault_of 2 v) (λ z e. cc))))

  -- the byte behind which a test gives x or refuses
  local_tested : {A : Type 0} (t : ℕ → Bool) (x : ℕ → A) (f : ℕ) (n : ℕ) → Local plain Any (λ a. step_then (fixed_number n a) (λ v b. cond (t v) (gives (x v) b) (refuses f v b)))
  local_tested t x f n =
      both plain (λ k z. k ≡ n) Any (fixed_number n) (λ _ v b. cond (t v) (gives (x v) b) (refuses f v b)) (local_taking n (spelt_number m.big))
      (λ i v k q. local_cond plain Any (t v) (gives (x v)) (refuses f v) (local_gives Any (x v) tt) (local_pure Any (fault_of f v) (λ z e. tt)))

  local_sizes : Local plain Any sizes
  local_sizes =
      both plain Any Any size_of_addresses (λ _ s a. step_then (fixed_number 1 a) (λ g b. cond (eqb g 0) (gives s b) (refuses 5 g b))) (local_tested is_size (λ s. s) 4 1)
      (λ i s n q. local_tested (λ g. eqb g 0) (λ _. s) 5 1)

  -- the fields of the set at place p with the initial length i: its version v, its info offset o, the size s of an address
  module _ (limit p : ℕ) (i : Initial) where
    abbrev Fits : ℕ → Header → Type 0
    Fits k h = (h.place ≡ p) × (h.length ≡ i.length) × (h.word ≡ i.word)

    abbrev whole : ℕ → ℕ → ℕ → Meaning → Step Header
    whole v o s t = gives (record { place = p; length = i.length; word = i.word; version = v; size = s; info = o; tuples = t }) t

    abbrev from_padding : ℕ → ℕ → ℕ → Meaning → Step Header
    from_padding v o s c = step_then (skip_step (padding i.word s) c) (λ _ t. whole v o s t)

    abbrev from_sizes : ℕ → ℕ → Meaning → Step Header
    from_sizes v o b = step_then (sizes b) (from_padding v o)

    local_whole : (v o s : ℕ) → Local retuple Fits (whole v o s)
    local_whole v o s j bs z e =
        let x : record { place = p; length = i.length; word = i.word; version = v; size = s; info = o; tuples = at j bs m } ≡ z = same_answer e in
        record {
          taken = [];
          left = bs;
          bytes = refl;
          good = (ap (λ (h : Header). h.place) (sym x), ap (λ (h : Header). h.length) (sym x), ap (λ (h : Header). h.word) (sym x));
          again = λ cs. let k : j + 0 ≡ j = omega arith in rw k (ap (λ (h : Header). gives (retuple h (at j cs m)) (at j cs m)) x);
        }

    local_fields : Local retuple Fits (fields limit p i)
    local_fields =
        both retuple Any Fits version (λ _ v a. step_then (offset limit i.word a) (from_sizes v)) (local_tested (λ v. eqb v 2 || eqb v 3) (λ v. v) 3 2)
        (λ _ v _ _. both retuple Any Fits (offset limit i.word) (λ _. from_sizes v) (local_offset limit i.word)
        (λ _ o _ _. both retuple Any Fits sizes (λ _. from_padding v o) local_sizes
        (λ _ s _ _. both retuple (λ k _. k ≡ padding i.word s) Fits (skip_step (padding i.word s)) (λ _ _. whole v o s) (local_taking (padding i.word s) (λ _. tt))
        (λ _ _ _ _. local_whole v o s))))

-- A header that was read: the bytes `front` before its tuples and those `back` behind it. Behind the same front other tuples of
-- the same length, and whatever is behind them, give the same header but for its tuples.
pub record Parsed (limit p : ℕ) (m : Meaning) (h : Header) : Type 0 where
  pub front : List ℕ
  pub back : List ℕ
  pub place : h.place ≡ p
  pub bytes : m.rest ≡ front ++ (h.tuples.rest ++ back)
  pub leads : length_size h.word ≤ length front
  pub spans : length front + length h.tuples.rest ≡ span h
  pub tuples : h.tuples ≡ at (m.id + length front) h.tuples.rest m
  pub again : (ts bs : List ℕ) → length ts ≡ length h.tuples.rest
      → set_step limit p (at m.id (front ++ (ts ++ bs)) m) ≡ gives (retuple h (at (m.id + length front) ts m)) (at (m.id + span h) bs m)

module _ (limit p : ℕ) (m : Meaning) (h : Header) where
  abbrev apart : Initial → Meaning → Meaning → Step Header
  apart i t a = record { outcome = (fields limit p i t).outcome; after = a }

  abbrev from_length : Initial → Meaning → Step Header
  from_length i a = step_then (split_step i.length a) (apart i)

  abbrev Begun : Initial → Type 0
  Begun i = Got m plain (Leads m) (λ j bs. initial limit (at j bs m)) m.id m.rest i

  -- the set's bytes split off, and its fields
  whole_set : (i : Initial) (a : Begun i) → i.length ≤ length a.left
      → Got m retuple (Fits m limit p i) (λ j bs. fields limit p i (at j bs m)) (m.id + length a.taken) (take i.length a.left) h
      → (fields limit p i (at (m.id + length a.taken) (take i.length a.left) m)).outcome ≡ answer h → Parsed limit p m h
  whole_set i a k b e =
      let n : ℕ = length a.taken in
      let l : ℕ = i.length in
      let x : h ≡ retuple h (at ((m.id + n) + length b.taken) b.left m)
      = same_answer (sym e ∙ (ap (λ (v : List ℕ). (fields limit p i (at (m.id + n) v m)).outcome) b.bytes ∙ ap (λ (s : Step Header). s.outcome) (b.again b.left))) in
      let t : h.tuples.rest ≡ b.left = ap (λ (v : Header). v.tuples.rest) x in
      let j : (m.id + n) + length b.taken ≡ m.id + length (a.taken ++ b.taken) = omega (arith, length-append a.taken b.taken) in
      let u : length (b.taken ++ b.left) ≡ l = ap length (sym b.bytes) ∙ length-take-le l a.left k in
      let s : n + l ≡ span h = omega (arith, ap length_size b.good.2, a.good, b.good.1) in
      record {
        front = a.taken ++ b.taken;
        back = drop l a.left;
        place = b.good.0;
        bytes = rw (t, append_assoc a.taken b.taken (b.left ++ drop l a.left), ← append_assoc b.taken b.left (drop l a.left), ← b.bytes, take-append-drop l a.left) a.bytes;
        leads = omega (arith, a.good, ap length_size b.good.2, length-append a.taken b.taken);
        spans = omega (arith, s, u, ap length t, length-append a.taken b.taken, length-append b.taken b.left);
        tuples = ap (λ (v : Header). v.tuples) x ∙ (ap (λ (v : ℕ). at v b.left m) j ∙ ap (λ (v : List ℕ). at (m.id + length (a.taken ++ b.taken)) v m) (sym t));
        again = λ ts bs q.
            let r : length (b.taken ++ ts) ≡ l = omega (arith, length-append b.taken ts, length-append b.taken b.left, u, ap length t) in
            let w : (m.id + n) + l ≡ m.id + span h = omega (arith, s) in
            let y : leb l (length ((b.taken ++ ts) ++ bs)) ≡ true = le-leb l (length ((b.taken ++ ts) ++ bs)) (omega (arith, length-append (b.taken ++ ts) bs)) in
            rw (append_assoc a.taken b.taken (ts ++ bs), ← append_assoc b.taken ts bs, a.again ((b.taken ++ ts) ++ bs), y, take_at (b.taken ++ ts) bs l r, drop_at (b.taken ++ ts) bs l r, b.again ts, j, w);
      }

  by_test : (i : Initial) (a : Begun i) (b : Bool) → leb i.length (length a.left) ≡ b
      → (step_then (cond b (gives (at (m.id + length a.taken) (take i.length a.left) m) (at ((m.id + length a.taken) + i.length) (drop i.length a.left) m)) (refuses 1 (m.id + length a.taken) (at (m.id + length a.taken) a.left m))) (apart i)).outcome ≡ answer h
      → Parsed limit p m h
  by_test i a true q e = whole_set i a (leb-true i.length (length a.left) q) (local_fields m limit p i (m.id + length a.taken) (take i.length a.left) h e) e
  by_test i a false q e = cc

  pub parsed : (set_step limit p m).outcome ≡ answer h → Parsed limit p m h
  parsed e =
      let i = then_answered (initial limit m).outcome (initial limit m).after from_length h e in
      let a : Begun i.0 = local_initial m limit m.id m.rest i.0 i.1 in
      let same : initial limit m ≡ gives i.0 (at (m.id + length a.taken) a.left m) = ap (λ (v : List ℕ). initial limit (at m.id v m)) a.bytes ∙ a.again a.left in
      by_test i.0 a (leb i.0.length (length a.left)) refl (subst (λ (s : Step Initial). (from_length i.0 s.after).outcome ≡ answer h) same i.2)

  -- a set that is read is passed whole
  pub leaves : (set_step limit p m).outcome ≡ answer h → set_step limit p m ≡ gives h (past (span h) m)
  leaves e =
      let x : Parsed limit p m h = parsed e in
      let ts : List ℕ = h.tuples.rest in
      let l : length (x.front ++ ts) ≡ span h = omega (arith, length-append x.front ts, x.spans) in
      let b : drop (span h) m.rest ≡ x.back = ap (drop (span h)) (x.bytes ∙ sym (append_assoc x.front ts x.back)) ∙ drop_at (x.front ++ ts) x.back (span h) l in
      ap (λ (v : List ℕ). set_step limit p (at m.id v m)) x.bytes
      ∙ (x.again ts x.back refl
      ∙ (ap (λ (t : Meaning). gives (retuple h t) (at (m.id + span h) x.back m)) (sym x.tuples)
      ∙ ap (λ (v : List ℕ). gives h (at (m.id + span h) v m)) (sym b)))
