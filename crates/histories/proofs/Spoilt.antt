-- A section in which the tuples of one set are spoilt: its longest run, and that the rest reads as before.
use Rattle.std.proofs.Common.{◌≡◌, ℕ, ◌+◌, ◌-◌, ◌<◌, ◌≤◌, ◌⊎◌, List, [], ◌∷◌, ◌++◌, length, get_or, take, drop, Option, sym, refl, ap, ◌∙◌, inl, inr, ⊎_elim, arith, length-drop, length-take, length-append}
use Rattle.std.proofs.lemmas.List.{append_assoc, take-take, drop-take, drop-drop, take_at, take-append-drop, length-take-le, ext_get_or, get_or-take, get_or-drop}
use Rattle.readers.specs.Outcome.{Fault, answer}
use Rattle.readers.specs.Reading.{Meaning, Step, at, past}
use Rattle.aranges.specs.Sets.{Header, header_at, span, set_step}
use Rattle.aranges.specs.Answers.{answers_on, answers_of}
use Rattle.walk.specs.Events.{Event}
use Rattle.histories.specs.Runs.{Run, end_from, Longest, fault_behind}
use Rattle.histories.specs.Law.{Lawful, History}
use Rattle.histories.specs.Apart.{Alike, Apart, Outside}
use Rattle.aranges.proofs.Parses.{Parsed, parsed, retuple}
use Rattle.histories.proofs.Longest.{inside, stops_bad, longest_from, longest_one, run_parts, run_join, end_join, end_le}
use Rattle.histories.proofs.Looks.{late, alike, AlikeLooks, search}
use Rattle.histories.proofs.Agree.{all_agree}

-- ys is xs but for n elements from place f on
record Spliced (f n : ℕ) (xs ys : List ℕ) : Type 0 where
  fits : f + n ≤ length xs
  as_long : length ys ≡ length xs
  before : take f ys ≡ take f xs
  behind : drop (f + n) ys ≡ drop (f + n) xs

spliced : (f n : ℕ) (xs ys : List ℕ) → f + n ≤ length xs → length ys ≡ length xs
    → ((i : ℕ) → (i < f) ⊎ (f + n ≤ i) → get_or ys i 0 ≡ get_or xs i 0) → Spliced f n xs ys
spliced f n xs ys l e same = record {
  fits = l;
  as_long = e;
  before = ext_get_or 0 (take f ys) (take f xs) (omega (arith, length-take f ys, length-take f xs))
      (λ i k. let j : i < f = omega (arith, length-take f ys) in get_or-take f ys i 0 j ∙ (same i (inl j) ∙ sym (get_or-take f xs i 0 j)));
  behind = ext_get_or 0 (drop (f + n) ys) (drop (f + n) xs) (omega (arith, length-drop (f + n) ys, length-drop (f + n) xs))
      (λ i k. get_or-drop (f + n) ys i 0 ∙ (same ((f + n) + i) (inr (omega arith)) ∙ sym (get_or-drop (f + n) xs i 0)));
}

module _ (limit : ℕ) (m : Meaning) (f n : ℕ) (ys : List ℕ) (s : Spliced f n m.rest ys) where
  near : (p k : ℕ) → p + k ≤ f → take k (drop p ys) ≡ take k (drop p m.rest)
  near p k l = rw (← drop-take p k ys, ← take-take (p + k) f ys l, s.before, take-take (p + k) f m.rest l, drop-take p k m.rest)

  abbrev other : Meaning
  other = at m.id ys m

  -- behind the tuples
  far : (p : ℕ) → f + n ≤ p → past p other ≡ past p m
  far p l =
      let e : (f + n) + (p - (f + n)) ≡ p = omega arith in
      ap (λ (v : List ℕ). at (m.id + p) v m) (rw (← e, ← drop-drop (p - (f + n)) (f + n) ys, s.behind, drop-drop (p - (f + n)) (f + n) m.rest))

  run_behind : (p : ℕ) (hs : List Header) → f + n ≤ p → Run limit m p hs → Run limit other p hs
  run_behind p [] l r = tt
  run_behind p (h ∷ hs) l r = (ap (λ (a : Meaning). (set_step limit p a).outcome) (far p l) ∙ r.0, run_behind (p + span h) hs (omega arith) r.1)

  -- a set before them
  reread : (p : ℕ) (g : Header) → Parsed limit p (past p m) g → p + span g ≤ f → header_at limit other p ≡ answer g
  reread p g x l =
      let t : List ℕ = g.tuples.rest in
      let k : length (x.front ++ t) ≡ span g = length-append x.front t ∙ x.spans in
      let c : take (span g) (drop p ys) ≡ x.front ++ t = rw (near p (span g) l, x.bytes, ← append_assoc x.front t x.back, take_at (x.front ++ t) x.back (span g) k) refl in
      let bs : List ℕ = drop (span g) (drop p ys) in
      ap (λ (v : List ℕ). (set_step limit p (at (m.id + p) v m)).outcome) (sym (take-append-drop (span g) (drop p ys)) ∙ (ap (λ (v : List ℕ). v ++ bs) c ∙ append_assoc x.front t bs))
      ∙ (ap (λ (v : Step Header). v.outcome) (x.again t bs refl) ∙ ap (λ (v : Meaning). answer (retuple g v)) (sym x.tuples))

  run_before : (p : ℕ) (hs : List Header) → end_from p hs ≤ f → Run limit m p hs → Run limit other p hs
  run_before p [] l r = tt
  run_before p (g ∷ hs) l r =
      (reread p g (parsed limit p (past p m) g r.0) (omega (arith, end_le (p + span g) hs)), run_before (p + span g) hs l r.1)

-- the spoilt section, with the header k in place of h
pub record Mate (limit : ℕ) (m m2 : Meaning) (front : List Header) (h : Header) (rest : List Header) : Type 0 where
  pub tuples : Meaning
  pub alike : Alike h (retuple h tuples)
  pub stands : h.place ≡ end_from 0 front
  pub longest : Longest limit m2 (front ++ (retuple h tuples ∷ rest))
  pub behind : fault_behind limit m2 (front ++ (retuple h tuples ∷ rest)) ≡ fault_behind limit m (front ++ (h ∷ rest))

module _ (limit : ℕ) (m : Meaning) (front : List Header) (h : Header) (rest : List Header) (g : Longest limit m (front ++ (h ∷ rest))) (ys : List ℕ)
    (as_long : length ys ≡ length m.rest) (elsewhere : (i : ℕ) → Outside m h i → get_or ys i 0 ≡ get_or m.rest i 0) where
  abbrev place : ℕ
  place = end_from 0 front

  abbrev n : ℕ
  n = length h.tuples.rest

  mate_of : Parsed limit place (past place m) h → Mate limit m (at m.id ys m) front h rest
  mate_of x =
      let r = run_parts limit m 0 front (h ∷ rest) g.run in
      let f : ℕ = place + length x.front in
      let i = inside limit m place h r.1.0 in
      let t : h.tuples.id ≡ m.id + f = omega (arith, ap (λ (v : Meaning). v.id) x.tuples) in
      let out : (j : ℕ) → (j < f) ⊎ (f + n ≤ j) → Outside m h j = λ j o. ⊎_elim (λ l. inl (omega arith)) (λ l. inr (omega arith)) o in
      let s : Spliced f n m.rest ys = spliced f n m.rest ys (omega (arith, x.spans)) as_long (λ j o. elsewhere j (out j o)) in
      let j : ℕ = length x.front in
      let ds : List ℕ = drop j (drop place ys) in
      let us : List ℕ = take n ds in
      let u : length us ≡ n = length-take-le n ds (omega (arith, x.spans, length-drop j (drop place ys), length-drop place ys)) in
      let c : take j (drop place ys) ≡ x.front = near limit m f n ys s place j (omega arith) ∙ (ap (take j) x.bytes ∙ take_at x.front (h.tuples.rest ++ x.back) j refl) in
      let w : drop place ys ≡ x.front ++ (us ++ drop n ds)
      = sym (take-append-drop j (drop place ys)) ∙ (ap (λ (v : List ℕ). v ++ ds) c ∙ ap (λ (v : List ℕ). x.front ++ v) (sym (take-append-drop n ds))) in
      let k : Header = retuple h (at ((m.id + place) + j) us m) in
      let own : header_at limit (at m.id ys m) place ≡ answer k
      = ap (λ (v : List ℕ). (set_step limit place (at (m.id + place) v m)).outcome) w ∙ ap (λ (v : Step Header). v.outcome) (x.again us (drop n ds) u) in
      let q : ℕ = end_from (place + span h) rest in
      let e : end_from 0 (front ++ (h ∷ rest)) ≡ q = end_join 0 front (h ∷ rest) in
      let e2 : end_from 0 (front ++ (k ∷ rest)) ≡ q = end_join 0 front (k ∷ rest) in
      let l : f + n ≤ q = omega (arith, x.spans, end_le (place + span h) rest) in
      let same : header_at limit (at m.id ys m) q ≡ header_at limit m q = ap (λ (a : Meaning). (set_step limit q a).outcome) (far limit m f n ys s q l) in
      record {
        tuples = at ((m.id + place) + j) us m;
        alike = record { as_many = sym u; place = refl; length = refl; word = refl; version = refl; size = refl; info = refl; tuples = x.tuples };
        stands = x.place;
        longest =
            longest_from limit (at m.id ys m) (front ++ (k ∷ rest))
            (run_join limit (at m.id ys m) 0 front (k ∷ rest) (run_before limit m f n ys s 0 front (omega arith) r.0) (own, run_behind limit m f n ys s (place + span h) rest (omega (arith, x.spans)) r.1.1))
            (rw (e2, same, ← e) (stops_bad limit m (front ++ (h ∷ rest)) g));
        behind = rw (e2, e, same, as_long) refl;
      }

  pub mate : Mate limit m (at m.id ys m) front h rest
  mate = mate_of (parsed limit place (past place m) h (run_parts limit m 0 front (h ∷ rest) g.run).1.0)

answers_join : (hs gs : List Header) → answers_of (hs ++ gs) ≡ answers_of hs ++ answers_of gs
answers_join [] gs = refl
answers_join (h ∷ hs) gs = rw (answers_join hs gs, append_assoc (answers_on h) (answers_of hs) (answers_of gs))

-- a lawful history is one over the longest run
pub over : (limit : ℕ) (m : Meaning) (hs : List Header) (es : List Event) → Longest limit m hs → History limit m es → Lawful hs (fault_behind limit m hs) [] es
over limit m hs es g x = rw (← longest_one limit m hs x.sets g x.longest) x.lawful

pub apart : (limit : ℕ) (m : Meaning) (es : List Event) → History limit m es → Apart limit m es
apart limit m es x m2 es2 h front rest g s x2 c =
    let t : Mate limit m m2 front h rest = rw s.alike (mate limit m front h rest g m2.rest s.as_long s.elsewhere) in
    let k : Header = retuple h t.tuples in
    let b : Option Fault = fault_behind limit m (front ++ (h ∷ rest)) in
    let q : h.place ≤ end_from 0 front = omega (arith, t.stands) in
    let looks : (a : ℕ) → AlikeLooks h.place (search a 0 (answers_of (front ++ (h ∷ rest))) b) (search a 0 (answers_of (front ++ (k ∷ rest))) b)
    = λ a. rw (answers_join front (h ∷ rest), answers_join front (k ∷ rest))
    (alike h.place a 0 (answers_of front) (answers_of (h ∷ rest)) (answers_of (k ∷ rest)) b
    (late limit m h.place (end_from 0 front) (h ∷ rest) (run_parts limit m 0 front (h ∷ rest) g.run).1 q)
    (late limit m2 h.place (end_from 0 front) (k ∷ rest) (run_parts limit m2 0 front (k ∷ rest) t.longest.run).1 q)) in
    all_agree h.place h k refl refl t.alike front rest b looks es es2 (over limit m (front ++ (h ∷ rest)) es g x) (rw (← t.behind) (over limit m2 (front ++ (k ∷ rest)) es2 t.longest x2)) c
