-- The law leaves no answer open, and histories over sections that differ in one set agree.
use Rattle.std.proofs.Common.{◌≡◌, ℕ, zero, suc, ◌⊎◌, List, [], ◌∷◌, ◌++◌, map, get_or, Some, None, Option, sym, refl, ap, ◌∙◌, subst, subst₂, inl, inr}
use Rattle.readers.specs.Outcome.{Outcome, Fault, answer, fault}
use Rattle.aranges.specs.Sets.{Header}
use Rattle.aranges.specs.Tuples.{Kind}
use Rattle.aranges.specs.Answers.{answers_of}
use Rattle.lookup.specs.Lookups.{Looked}
use Rattle.walk.specs.Events.{Event, header, entries, told, looked}
use Rattle.histories.specs.Law.{header_answers, header_count, last_header, entries_answer, OpenSet, set_at_first, set_behind, open_set, reply_at, Right, Lawful, Call, call, next_header, entries_call, next_call, lookup_call}
use Rattle.histories.specs.Apart.{Alike, Agrees, same, its_header, its_tuples, its_lookups, AllAgree}
use Rattle.histories.proofs.Looks.{search, lookup_is, AlikeLooks}

-- the one event of a call that is right after others
abbrev event_at : List Header → Option Fault → List Event → Call → Event
event_at hs b before next_header = header (get_or (header_answers hs b) (header_count before) (answer None))
event_at hs b before entries_call = entries (entries_answer (last_header before))
event_at hs b before (next_call k) = told k (reply_at k (open_set before))
event_at hs b before (lookup_call a) = looked a (search a 0 (answers_of hs) b)

is_event : (hs : List Header) (b : Option Fault) (before : List Event) (e : Event) → Right hs b before e → e ≡ event_at hs b before (call e)
is_event hs b before (header o) r = ap header r
is_event hs b before (entries o) r = ap entries r
is_event hs b before (told k t) r = ap (told k) r
is_event hs b before (looked a l) r = ap (looked a) (lookup_is a (answers_of hs) b l r)

pub only : (hs : List Header) (b : Option Fault) (before es es2 : List Event) → Lawful hs b before es → Lawful hs b before es2 → map call es2 ≡ map call es → es2 ≡ es
only hs b before [] [] l k c = refl
only hs b before [] (f ∷ fs) l k c = cc
only hs b before (e ∷ es) [] l k c = cc
only hs b before (e ∷ es) (f ∷ fs) l k c =
    let q : call f ≡ call e = cc in
    let s : f ≡ e = is_event hs b before f k.0 ∙ (ap (event_at hs b before) q ∙ sym (is_event hs b before e l.0)) in
    let c2 : map call fs ≡ map call es = cc in
    let r : fs ≡ es = only hs b (e ∷ before) es fs l.1 (subst (λ (x : Event). Lawful hs b (x ∷ before) fs) s k.1) c2 in
    cc

-- Two sections that differ in the set at the place p, which is h in the first and k in the second.
module _ (p : ℕ) (h k : Header) (hp : h.place ≡ p) (kp : k.place ≡ p) (alike : Alike h k) (front rest : List Header) (b : Option Fault)
    (looks : (a : ℕ) → AlikeLooks p (search a 0 (answers_of (front ++ (h ∷ rest))) b) (search a 0 (answers_of (front ++ (k ∷ rest))) b)) where
  abbrev hs : List Header
  hs = front ++ (h ∷ rest)

  abbrev ks : List Header
  ks = front ++ (k ∷ rest)

  abbrev Mated : Header → Header → Type 0
  Mated x y = (x ≡ y) ⊎ ((x.place ≡ p) × (y.place ≡ p) × Alike x y)

  abbrev Mates : Option Header → Option Header → Type 0
  Mates None None = Unit {0}
  Mates (Some x) (Some y) = Mated x y
  Mates None (Some y) = ⊥
  Mates (Some x) None = ⊥

  abbrev Answers : Outcome (Option Header) → Outcome (Option Header) → Type 0
  Answers (answer x) (answer y) = Mates x y
  Answers (fault f) (fault g) = f ≡ g
  Answers (answer x) (fault g) = ⊥
  Answers (fault f) (answer y) = ⊥

  abbrev AlikeOpen : Option OpenSet → Option OpenSet → Type 0
  AlikeOpen None None = Unit {0}
  AlikeOpen (Some s) (Some t) = (s ≡ t) ⊎ (s.set.place ≡ p)
  AlikeOpen None (Some t) = ⊥
  AlikeOpen (Some s) None = ⊥

  answers_same : (o : Outcome (Option Header)) → Answers o o
  answers_same (answer None) = tt
  answers_same (answer (Some x)) = inl refl
  answers_same (fault f) = refl

  answers_at : (fs : List Header) (n : ℕ) → Answers (get_or (header_answers (fs ++ (h ∷ rest)) b) n (answer None)) (get_or (header_answers (fs ++ (k ∷ rest)) b) n (answer None))
  answers_at [] zero = inr (hp, kp, alike)
  answers_at [] (suc n) = answers_same (get_or (header_answers rest b) n (answer None))
  answers_at (f ∷ fs) zero = inl refl
  answers_at (f ∷ fs) (suc n) = answers_at fs n

  -- the events so far
  record Both (before before2 : List Event) : Type 0 where
    count : header_count before2 ≡ header_count before
    latest : Mates (last_header before) (last_header before2)
    sets_alike : AlikeOpen (open_set before) (open_set before2)

  record Next (before before2 : List Event) (e f : Event) : Type 0 where
    agrees : Agrees p before e f
    both : Both (e ∷ before) (f ∷ before2)

  heads : (before before2 : List Event) → Both before before2 → (o o2 : Outcome (Option Header)) → Answers o o2 → Next before before2 (header o) (header o2)
  heads before before2 i (answer (Some x)) (answer (Some y)) (inl e) = record { agrees = rw e same; both = record { count = rw i.count refl; latest = inl e; sets_alike = i.sets_alike } }
  heads before before2 i (answer (Some x)) (answer (Some y)) (inr m) = record { agrees = its_header m.1 m.2; both = record { count = rw i.count refl; latest = inr m; sets_alike = i.sets_alike } }
  heads before before2 i (answer None) (answer None) m = record { agrees = same; both = record { count = rw i.count refl; latest = i.latest; sets_alike = i.sets_alike } }
  heads before before2 i (fault f) (fault g) e = record { agrees = rw e same; both = record { count = rw i.count refl; latest = i.latest; sets_alike = i.sets_alike } }
  heads before before2 i (answer None) (answer (Some y)) m = absurd m
  heads before before2 i (answer (Some x)) (answer None) m = absurd m
  heads before before2 i (answer x) (fault g) m = absurd m
  heads before before2 i (fault f) (answer y) m = absurd m

  enters : (before before2 : List Event) → Both before before2 → (x y : Option Header) → last_header before ≡ x → last_header before2 ≡ y → Mates x y
      → Next before before2 (entries (entries_answer x)) (entries (entries_answer y))
  enters before before2 i (Some x) (Some y) q r m =
      record { agrees = same; both = record { count = i.count; latest = i.latest; sets_alike = rw (q, r) (go m) } }
    where
      go : Mated x y → AlikeOpen (Some (set_at_first x)) (Some (set_at_first y))
      go (inl e) = inl (ap set_at_first e)
      go (inr m) = inr m.0
  enters before before2 i None None q r m = record { agrees = same; both = record { count = i.count; latest = i.latest; sets_alike = i.sets_alike } }
  enters before before2 i None (Some y) q r m = absurd m
  enters before before2 i (Some x) None q r m = absurd m

  tells : (before before2 : List Event) → Both before before2 → (j : Kind) (s t : Option OpenSet) → open_set before ≡ s → open_set before2 ≡ t → AlikeOpen s t
      → Next before before2 (told j (reply_at j s)) (told j (reply_at j t))
  tells before before2 i j (Some s) (Some t) q r (inl e) = record { agrees = rw e same; both = record { count = i.count; latest = i.latest; sets_alike = rw (q, r) (inl (ap (set_behind j) e)) } }
  tells before before2 i j (Some s) (Some t) q r (inr e) = record { agrees = its_tuples (rw q e); both = record { count = i.count; latest = i.latest; sets_alike = rw (q, r) (inr e) } }
  tells before before2 i j None None q r m = record { agrees = same; both = record { count = i.count; latest = i.latest; sets_alike = rw (q, r) tt } }
  tells before before2 i j None (Some t) q r m = absurd m
  tells before before2 i j (Some s) None q r m = absurd m

  looks_up : (before before2 : List Event) → Both before before2 → (a : ℕ) (r s : Looked) → AlikeLooks p r s → Next before before2 (looked a r) (looked a s)
  looks_up before before2 i a r s (inl e) = record { agrees = rw e same; both = record { count = i.count; latest = i.latest; sets_alike = i.sets_alike } }
  looks_up before before2 i a r s (inr n) = record { agrees = its_lookups n.0 n.1; both = record { count = i.count; latest = i.latest; sets_alike = i.sets_alike } }

  next : (before before2 : List Event) → Both before before2 → (c : Call) → Next before before2 (event_at hs b before c) (event_at ks b before2 c)
  next before before2 i next_header = rw i.count (heads before before2 i _ _ (answers_at front (header_count before)))
  next before before2 i entries_call = enters before before2 i (last_header before) (last_header before2) refl refl i.latest
  next before before2 i (next_call j) = tells before before2 i j (open_set before) (open_set before2) refl refl i.sets_alike
  next before before2 i (lookup_call a) = looks_up before before2 i a _ _ (looks a)

  agree : (before before2 es es2 : List Event) → Both before before2 → Lawful hs b before es → Lawful ks b before2 es2 → map call es2 ≡ map call es → AllAgree p before es es2
  agree before before2 [] [] i l m c = tt
  agree before before2 [] (f ∷ fs) i l m c = cc
  agree before before2 (e ∷ es) [] i l m c = cc
  agree before before2 (e ∷ es) (f ∷ fs) i l m c =
      let q : call f ≡ call e = cc in
      let c2 : map call fs ≡ map call es = cc in
      let u : event_at hs b before (call e) ≡ e = sym (is_event hs b before e l.0) in
      let v : event_at ks b before2 (call e) ≡ f = ap (event_at ks b before2) (sym q) ∙ sym (is_event ks b before2 f m.0) in
      let n : Next before before2 e f = subst₂ (λ (x y : Event). Next before before2 x y) u v (next before before2 i (call e)) in
      (n.agrees, agree (e ∷ before) (f ∷ before2) es fs n.both l.1 m.1 c2)

  pub all_agree : (es es2 : List Event) → Lawful hs b [] es → Lawful ks b [] es2 → map call es2 ≡ map call es → AllAgree p [] es es2
  all_agree es es2 = agree [] [] es es2 (record { count = refl; latest = tt; sets_alike = tt })
