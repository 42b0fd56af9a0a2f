-- A set and its tuples are shorter than what they were read from.
use Rattle.std.proofs.Common.{◌≡◌, ℕ, ◌+◌, ◌-◌, ◌<◌, ◌≤◌, ◌++◌, Bool, true, false, cond, eqb, length, Some, None, refl, ap, ◌∙◌, arith, length-drop, length-append}
use Rattle.std.proofs.lemmas.Bool.{cond_both, eq-eqb}
use Rattle.readers.specs.Outcome.{Outcome, answer, fault}
use Rattle.readers.specs.Reading.{Meaning, Step, gives, length_size}
use Rattle.aranges.specs.Sets.{Header, span, set_step}
use Rattle.aranges.specs.Iterators.{or_empties, next_set}
use Rattle.aranges.proofs.Parses.{parsed, leaves}

pub set_shorter : (limit p : ℕ) (m : Meaning) (h : Header) → (set_step limit p m).outcome ≡ answer h
    → length h.tuples.rest + length (set_step limit p m).after.rest < length m.rest
set_shorter limit p m h e =
    let x = parsed limit p m h e in
    let a : length (set_step limit p m).after.rest ≡ length m.rest - span h = ap (λ (s : Step Header). length s.after.rest) (leaves limit p m h e) ∙ length-drop (span h) m.rest in
    let s : 4 ≤ length_size h.word = cond_both _ 4 12 (λ n. 4 ≤ n) (λ _. omega arith) (λ _. omega arith) in
    omega (arith, a, s, x.leads, x.spans, ap length x.bytes, length-append x.front (h.tuples.rest ++ x.back), length-append h.tuples.rest x.back)

-- the same of next header
next_by : (b : Bool) (m : Meaning) (o : Outcome Header) (a : Meaning) (h : Header)
    → (cond b (gives None m) (or_empties (record { outcome = o; after = a }))).outcome ≡ answer (Some h)
    → (o ≡ answer h) × ((cond b (gives None m) (or_empties (record { outcome = o; after = a }))).after ≡ a)
next_by true m o a h e = cc
next_by false m (answer g) a h e = (cc, refl)
next_by false m (fault f) a h e = cc

pub next_shorter : (limit b : ℕ) (m : Meaning) (h : Header) → (next_set limit b m).outcome ≡ answer (Some h)
    → length h.tuples.rest + length (next_set limit b m).after.rest < length m.rest
next_shorter limit b m h e =
    let p = next_by (eqb (length m.rest) 0) m (set_step limit (m.id - b) m).outcome (set_step limit (m.id - b) m).after h e in
    let q = set_shorter limit (m.id - b) m h p.0 in
    let r : length (next_set limit b m).after.rest ≡ length (set_step limit (m.id - b) m).after.rest = ap (λ (x : Meaning). length x.rest) p.1 in
    omega (arith, q, r)

pub next_none : (limit b : ℕ) (m : Meaning) → length m.rest ≡ 0 → (next_set limit b m).outcome ≡ answer None
next_none limit b m z = let e : eqb (length m.rest) 0 ≡ true = eq-eqb (length m.rest) 0 z in ap (λ (x : Bool). (cond x (gives None m) (or_empties (set_step limit (m.id - b) m))).outcome) e
