-- The longest run of whole sets: every section has one, and only one.
use Rattle.std.proofs.Common.{◌≡◌, ℕ, zero, suc, ◌+◌, ◌≤◌, List, [], ◌∷◌, ◌++◌, length, refl, ap, subst, arith, length-drop, length-append}
use Rattle.std.proofs.lemmas.Bool.{cond_both}
use Rattle.readers.specs.Outcome.{Outcome, answer, fault}
use Rattle.readers.specs.Reading.{Meaning, past}
use Rattle.aranges.specs.Sets.{Header, header_at, span}
use Rattle.histories.specs.Runs.{Run, end_from, Begins, Longest}
use Rattle.aranges.proofs.Parses.{Parsed, parsed}

-- a set has at least four bytes, and lies in its section
pub inside : (limit : ℕ) (m : Meaning) (p : ℕ) (h : Header) → header_at limit m p ≡ answer h → (4 ≤ span h) × (p + span h ≤ length m.rest)
inside limit m p h e =
    let x : Parsed limit p (past p m) h = parsed limit p (past p m) h e in
    let s : 4 ≤ span h = cond_both _ 4 12 (λ n. 4 ≤ n + h.length) (λ _. omega arith) (λ _. omega arith) in
    (s, omega (arith, ap length x.bytes, x.spans, length-drop p m.rest, length-append x.front (h.tuples.rest ++ x.back), length-append h.tuples.rest x.back))

-- an outcome that is no header
abbrev pub Bad : Outcome Header → Type 0
Bad o = (h : Header) → o ≡ answer h → ⊥

-- a run from a place on, behind which no header stands
pub record Stop (limit : ℕ) (m : Meaning) (p : ℕ) : Type 0 where
  pub sets : List Header
  pub run : Run limit m p sets
  pub bad : Bad (header_at limit m (end_from p sets))

scan_by : (limit : ℕ) (m : Meaning) (p : ℕ) (o : Outcome Header) → header_at limit m p ≡ o → ((h : Header) → header_at limit m p ≡ answer h → Stop limit m (p + span h)) → Stop limit m p
scan_by limit m p (fault f) e more = record { sets = []; run = tt; bad = λ h q. cc }
scan_by limit m p (answer h) e more = let s = more h e in record { sets = h ∷ s.sets; run = (e, s.run); bad = s.bad }

scan : (limit : ℕ) (m : Meaning) (n p : ℕ) → length m.rest ≤ p + n → Stop limit m p
scan limit m zero p l = record { sets = []; run = tt; bad = λ h e. let i = inside limit m p h e in absurd (omega arith) }
scan limit m (suc n) p l = scan_by limit m p (header_at limit m p) refl (λ h e. let i = inside limit m p h e in scan limit m n (p + span h) (omega arith))

-- every run from the same place is a beginning of one that stops
begins : (limit : ℕ) (m : Meaning) (p : ℕ) (gs hs : List Header) → Run limit m p gs → Run limit m p hs → Bad (header_at limit m (end_from p hs)) → Begins gs hs
begins limit m p [] hs r s b = (hs, refl)
begins limit m p (g ∷ gs) [] r s b = absurd (b g r.0)
begins limit m p (g ∷ gs) (h ∷ hs) r s b =
    let same : h ≡ g = cc (r.0, s.0) in
    let t = begins limit m (p + span g) gs hs r.1 (subst (λ (x : Header). Run limit m (p + span x) hs) same s.1) (subst (λ (x : Header). Bad (header_at limit m (end_from (p + span x) hs))) same b) in
    (t.0, cc (same, t.1))

both_begin : {A : Type 0} (xs ys : List A) → Begins xs ys → Begins ys xs → xs ≡ ys
both_begin [] [] b c = refl
both_begin [] (y ∷ ys) b c = cc c.1
both_begin (x ∷ xs) [] b c = cc b.1
both_begin (x ∷ xs) (y ∷ ys) (zs, b) (ws, c) =
    let b2 : ys ≡ xs ++ zs = cc in
    let c2 : xs ≡ ys ++ ws = cc in
    let r : xs ≡ ys = both_begin xs ys (zs, b2) (ws, c2) in
    cc

pub longest_one : (limit : ℕ) (m : Meaning) (hs gs : List Header) → Longest limit m hs → Longest limit m gs → gs ≡ hs
longest_one limit m hs gs a b = both_begin gs hs (a.others gs b.run) (b.others hs a.run)

pub longest_from : (limit : ℕ) (m : Meaning) (hs : List Header) → Run limit m 0 hs → Bad (header_at limit m (end_from 0 hs)) → Longest limit m hs
longest_from limit m hs r b = record { run = r; others = λ gs t. begins limit m 0 gs hs t r b }

pub stop_of : (limit : ℕ) (m : Meaning) → Stop limit m 0
stop_of limit m = scan limit m (length m.rest) 0 (omega arith)

-- no header stands where the longest run ends
pub stops_bad : (limit : ℕ) (m : Meaning) (hs : List Header) → Longest limit m hs → Bad (header_at limit m (end_from 0 hs))
stops_bad limit m hs a =
    let s = stop_of limit m in
    subst (λ (xs : List Header). Bad (header_at limit m (end_from 0 xs))) (longest_one limit m hs s.sets a (longest_from limit m s.sets s.run s.bad)) s.bad

-- a run behind another
pub run_parts : (limit : ℕ) (m : Meaning) (p : ℕ) (hs gs : List Header) → Run limit m p (hs ++ gs) → Run limit m p hs × Run limit m (end_from p hs) gs
run_parts limit m p [] gs r = (tt, r)
run_parts limit m p (h ∷ hs) gs r = let t = run_parts limit m (p + span h) hs gs r.1 in ((r.0, t.0), t.1)

pub run_join : (limit : ℕ) (m : Meaning) (p : ℕ) (hs gs : List Header) → Run limit m p hs → Run limit m (end_from p hs) gs → Run limit m p (hs ++ gs)
run_join limit m p [] gs r t = t
run_join limit m p (h ∷ hs) gs r t = (r.0, run_join limit m (p + span h) hs gs r.1 t)

pub end_join : (p : ℕ) (hs gs : List Header) → end_from p (hs ++ gs) ≡ end_from (end_from p hs) gs
end_join p [] gs = refl
end_join p (h ∷ hs) gs = end_join (p + span h) hs gs

pub end_le : (p : ℕ) (hs : List Header) → p ≤ end_from p hs
end_le p [] = omega arith
end_le p (h ∷ hs) = omega (arith, end_le (p + span h) hs)
