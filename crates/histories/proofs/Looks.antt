-- Lookups: a search of the answers in order gives what the law says, and a lookup over the section is that search.
use Rattle.std.specs.Prelude.{if◌then◌else◌}
use Rattle.std.proofs.Common.{◌≡◌, ℕ, suc, ◌+◌, ◌≤◌, Bool, true, false, ◌⊎◌, List, [], ◌∷◌, ◌++◌, map, Some, None, Option, sym, refl, ap, subst, inl, inr, arith}
use Rattle.std.proofs.lemmas.List.{append-nil, append_assoc}
use Rattle.readers.specs.Outcome.{Outcome, Fault, answer, fault, fault_by}
use Rattle.readers.specs.Reading.{Meaning, past}
use Rattle.aranges.specs.Sets.{Header, span}
use Rattle.aranges.specs.Tuples.{Entry, converted, tuple as tuple_says, Says, nothing, entry, overflow, refused}
use Rattle.aranges.specs.Iterators.{next_set}
use Rattle.aranges.specs.Answers.{Answer, answer_at, answers_from, answers_on, answers_of, readers_of, fault_count, Item, tuple}
use Rattle.aranges.proofs.Visits.{items_all, items_step}
use Rattle.lookup.specs.Lookups.{Looked, range, spoilt, missing, holds, found_at, look, look_in}
use Rattle.histories.specs.Runs.{Run, Longest, fault_behind}
use Rattle.histories.specs.Law.{header_answers, is_hit, Nowhere, Lookup, hit, broken, absent}
use Rattle.histories.specs.Apart.{EndsBefore}
use Rattle.aranges.proofs.Parses.{parsed}
use Rattle.histories.proofs.Ahead.{Ahead, ended, ahead}

-- what answers_from gives at a tuple that says x
abbrev answers_by : Header → ℕ → ℕ → Meaning → List Meaning → Says → List Answer
answers_by h s n t ts nothing = answers_from h s (suc n) ts
answers_by h s n t ts (entry e) = answer_at h n t (answer e) ∷ answers_from h s (suc n) ts
answers_by h s n t ts overflow = answer_at h n t (fault (fault_by 10 0)) ∷ answers_from h s (suc n) ts
answers_by h s n t ts (refused f) = answer_at h n t (fault f) ∷ []

-- at an answer x with the outcome o, and then on by k
abbrev search_by : ℕ → ℕ → Answer → (ℕ → Looked) → Outcome Entry → Looked
search_by a c x k (answer e) = if holds a e then range (found_at x e) c else k c
search_by a c x k (fault f) = k (c + 1)

-- where c faults were passed before
abbrev pub search : ℕ → ℕ → List Answer → Option Fault → Looked
search a c [] None = missing c
search a c [] (Some f) = spoilt f
search a c (x ∷ xs) b = search_by a c x (λ d. search a d xs b) x.outcome

by_same : (a c : ℕ) (x : Answer) (j k : ℕ → Looked) → ((d : ℕ) → j d ≡ k d) → (o : Outcome Entry) → search_by a c x j o ≡ search_by a c x k o
by_same a c x j k q (answer e) = ap (λ (r : Looked). if holds a e then range (found_at x e) c else r) (q c)
by_same a c x j k q (fault f) = q (c + 1)

-- a lookup over items
look_answers : (a : ℕ) (xs ys : List Answer) (its : List Item) (b : Option Fault) → ((d : ℕ) → look a d its ≡ search a d ys b) → (c : ℕ) → look a c (map tuple xs ++ its) ≡ search a c (xs ++ ys) b
look_answers a [] ys its b q c = q c
look_answers a (x ∷ xs) ys its b q c = by_same a c x (λ d. look a d (map tuple xs ++ its)) (λ d. search a d (xs ++ ys) b) (look_answers a xs ys its b q) x.outcome

look_from : (limit start a : ℕ) (m : Meaning) (hs : List Header) (b : Option Fault) → Ahead limit start m (header_answers hs b)
    → (c : ℕ) → look a c (items_all limit start m) ≡ search a c (answers_of hs) b
look_from limit start a m [] None z c = rw (items_step limit start m, ended limit start m z)
look_from limit start a m [] (Some f) h c = rw (items_step limit start m, h.1)
look_from limit start a m (x ∷ hs) b h c =
    rw (items_step limit start m, h.1)
    (look_answers a (answers_on x) (answers_of hs) (items_all limit start (next_set limit start m).after) b (look_from limit start a (next_set limit start m).after hs b h.2) c)

pub look_is : (limit a : ℕ) (m : Meaning) (hs : List Header) → Longest limit m hs → look_in limit a m ≡ search a 0 (answers_of hs) (fault_behind limit m hs)
look_is limit a m hs g = look_from limit m.id a m hs (fault_behind limit m hs) (ahead limit m hs g) 0

-- what holds the address nowhere is passed over
skips : (a c : ℕ) (xs ys : List Answer) (b : Option Fault) → Nowhere a xs → search a c (xs ++ ys) b ≡ search a (c + fault_count xs) ys b
skips a c [] ys b n = let e : c ≡ c + 0 = omega arith in ap (λ (d : ℕ). search a d ys b) e
skips a c (x ∷ xs) ys b n = go x.outcome n.0 (λ d. skips a d xs ys b n.1)
  where
    go : (o : Outcome Entry) → (elim o [ answer e ↦ holds a e | fault _ ↦ false ]) ≡ false → ((d : ℕ) → search a d (xs ++ ys) b ≡ search a (d + fault_count xs) ys b)
        → search_by a c x (λ d. search a d (xs ++ ys) b) o ≡ search a (c + (elim o [ answer _ ↦ fault_count xs | fault _ ↦ fault_count xs + 1 ])) ys b
    go (answer e) q k = rw (q, k c)
    go (fault f) q k = let j : (c + 1) + fault_count xs ≡ c + (fault_count xs + 1) = omega arith in rw (k (c + 1), j)

-- a lookup of the law is the search
pub lookup_is : (a : ℕ) (xs : List Answer) (b : Option Fault) (r : Looked) → Lookup xs b a r → r ≡ search a 0 xs b
lookup_is a xs b _ (hit before x e after p n q t) =
    let k : 0 + fault_count before ≡ fault_count before = omega arith in
    rw (p, skips a 0 before (x ∷ after) b n, k, q, t)
lookup_is a xs b _ (broken f n q) = rw (q, ← append-nil xs, skips a 0 xs [] (Some f) n)
lookup_is a xs b _ (absent n q) = let k : 0 + fault_count xs ≡ fault_count xs = omega arith in sym (rw (q, ← append-nil xs, skips a 0 xs [] None n, k, append-nil xs))

-- and the search is one
nowhere_push : (a : ℕ) (xs : List Answer) (x : Answer) → Nowhere a xs → is_hit a x ≡ false → Nowhere a (xs ++ (x ∷ []))
nowhere_push a [] x n e = (e, tt)
nowhere_push a (y ∷ xs) x n e = (n.0, nowhere_push a xs x n.1 e)

count_push : (xs : List Answer) (x : Answer) → fault_count (xs ++ (x ∷ [])) ≡ fault_count xs + fault_count (x ∷ [])
count_push [] x = omega arith
count_push (y ∷ xs) x = go y.outcome (fault_count (xs ++ (x ∷ []))) (fault_count xs) (fault_count (x ∷ [])) (count_push xs x)
  where
    go : (o : Outcome Entry) (n k l : ℕ) → n ≡ k + l → ◌≡◌ {A = ℕ} (elim o [ answer _ ↦ n | fault _ ↦ n + 1 ]) ((elim o [ answer _ ↦ k | fault _ ↦ k + 1 ]) + l)
    go (answer e) n k l q = q
    go (fault f) n k l q = omega arith

searched : (a : ℕ) (before xs : List Answer) (b : Option Fault) → Nowhere a before → Lookup (before ++ xs) b a (search a (fault_count before) xs b)
searched a before [] None n = subst (λ (ys : List Answer). Lookup ys None a (missing (fault_count before))) (sym (append-nil before)) (absent n refl)
searched a before [] (Some f) n = subst (λ (ys : List Answer). Lookup ys (Some f) a (spoilt f)) (sym (append-nil before)) (broken f n refl)
searched a before (x ∷ xs) b n = go x.outcome refl (searched a (before ++ (x ∷ [])) xs b)
  where
    next : (c : ℕ) → is_hit a x ≡ false → fault_count (before ++ (x ∷ [])) ≡ c → (Nowhere a (before ++ (x ∷ [])) → Lookup ((before ++ (x ∷ [])) ++ xs) b a (search a (fault_count (before ++ (x ∷ []))) xs b))
        → Lookup (before ++ (x ∷ xs)) b a (search a c xs b)
    next c u v more = rw (← append_assoc before (x ∷ []) xs, ← v) (more (nowhere_push a before x n u))

    go : (o : Outcome Entry) → x.outcome ≡ o → (Nowhere a (before ++ (x ∷ [])) → Lookup ((before ++ (x ∷ [])) ++ xs) b a (search a (fault_count (before ++ (x ∷ []))) xs b))
        → Lookup (before ++ (x ∷ xs)) b a (search_by a (fault_count before) x (λ d. search a d xs b) o)
    go (fault f) q more = next (fault_count before + 1) (rw q) (rw (count_push before x, q)) more
    go (answer e) q more = try (holds a e) refl
      where
        try : (t : Bool) → holds a e ≡ t → Lookup (before ++ (x ∷ xs)) b a (if t then range (found_at x e) (fault_count before) else search a (fault_count before) xs b)
        try true t = hit before x e xs refl n q t
        try false t = let z : fault_count before + 0 ≡ fault_count before = omega arith in next (fault_count before) (rw (q, t)) (rw (count_push before x, q, z)) more

pub is_lookup : (a : ℕ) (xs : List Answer) (b : Option Fault) → Lookup xs b a (search a 0 xs b)
is_lookup a xs b = searched a [] xs b tt

-- the answers of sets from the place p on
abbrev Late : ℕ → List Answer → Type 0
Late p [] = Unit {0}
Late p (x ∷ xs) = (p ≤ x.set.place) × Late p xs

late_search : (p a c : ℕ) (xs : List Answer) (b : Option Fault) → Late p xs → EndsBefore p (search a c xs b) → ⊥
late_search p a c [] None l e = e
late_search p a c [] (Some f) l e = e
late_search p a c (x ∷ xs) b l e = go x.outcome (λ d. late_search p a d xs b l.1) e
  where
    go : (o : Outcome Entry) → ((d : ℕ) → EndsBefore p (search a d xs b) → ⊥) → EndsBefore p (search_by a c x (λ d. search a d xs b) o) → ⊥
    go (fault f) k = k (c + 1)
    go (answer y) k = try (holds a y)
      where
        try : (t : Bool) → EndsBefore p (if t then range (found_at x y) c else search a c xs b) → ⊥
        try true q = omega (arith, l, q)
        try false q = k c q

late_append : (p : ℕ) (xs ys : List Answer) → Late p xs → Late p ys → Late p (xs ++ ys)
late_append p [] ys l k = k
late_append p (x ∷ xs) ys l k = (l.0, late_append p xs ys l.1 k)

late_from : (p : ℕ) (h : Header) (s n : ℕ) (ts : List Meaning) → p ≤ h.place → Late p (answers_from h s n ts)
late_from p h s n [] l = tt
late_from p h s n (t ∷ ts) l = go (tuple_says converted s t) (late_from p h s (suc n) ts l)
  where
    go : (x : Says) → Late p (answers_from h s (suc n) ts) → Late p (answers_by h s n t ts x)
    go nothing k = k
    go (entry e) k = (l, k)
    go overflow k = (l, k)
    go (refused f) k = (l, tt)

pub late : (limit : ℕ) (m : Meaning) (p r : ℕ) (hs : List Header) → Run limit m r hs → p ≤ r → Late p (answers_of hs)
late limit m p r [] t l = tt
late limit m p r (h ∷ hs) t l =
    let x = parsed limit r (past r m) h t.0 in
    late_append p (answers_on h) (answers_of hs) (late_from p h h.size 0 (readers_of h) (omega (arith, x.place))) (late limit m p (r + span h) hs t.1 (omega arith))

-- two searches that differ only behind the first answers, from the place p on
abbrev pub AlikeLooks : ℕ → Looked → Looked → Type 0
AlikeLooks p r s = (r ≡ s) ⊎ ((EndsBefore p r → ⊥) × (EndsBefore p s → ⊥))

pub alike : (p a c : ℕ) (xs ys zs : List Answer) (b : Option Fault) → Late p ys → Late p zs → AlikeLooks p (search a c (xs ++ ys) b) (search a c (xs ++ zs) b)
alike p a c [] ys zs b l k = inr (late_search p a c ys b l, late_search p a c zs b k)
alike p a c (x ∷ xs) ys zs b l k = go x.outcome (λ d. alike p a d xs ys zs b l k)
  where
    go : (o : Outcome Entry) → ((d : ℕ) → AlikeLooks p (search a d (xs ++ ys) b) (search a d (xs ++ zs) b))
        → AlikeLooks p (search_by a c x (λ d. search a d (xs ++ ys) b) o) (search_by a c x (λ d. search a d (xs ++ zs) b) o)
    go (fault f) r = r (c + 1)
    go (answer e) r = try (holds a e)
      where
        try : (t : Bool) → AlikeLooks p (if t then range (found_at x e) c else search a c (xs ++ ys) b) (if t then range (found_at x e) c else search a c (xs ++ zs) b)
        try true = inl refl
        try false = r c
