-- A set that is read lies in its section, and so do its tuples.
use Rattle.std.proofs.Common.{◌≡◌, ℕ, ◌≤◌, ◌++◌, Bool, true, false, cond, leb, length, Ok, Err, Result, IfOk, refl, sym, ap, arith, length-drop, length-append}
use Rattle.std.proofs.lemmas.Bool.{leb-true}
use Rattle.readers.specs.declared.error.Error.{Error}
use Rattle.readers.specs.Outcome.{answer}
use Rattle.readers.specs.Reading.{Meaning, past, step_then, gives, refuses}
use Rattle.readers.specs.Links.{outcome_is}
use Rattle.aranges.specs.Sets.{Header, set_step, header_at, header_past}
use Rattle.aranges.proofs.Parses.{parsed}
use Rattle.mallethill.specs.Headers.{Within}

set_within : (limit p : ℕ) (m : Meaning) (h : Header) → p ≤ length m.rest → header_at limit m p ≡ answer h → Within (length m.rest) h
set_within limit p m h k e =
    let x = parsed limit p (past p m) h e in
    let l = ap length x.bytes in
    let a = length-append x.front (h.tuples.rest ++ x.back) in
    let b = length-append h.tuples.rest x.back in
    let d = length-drop p m.rest in
    (omega arith, omega arith)

-- the set at an offset of a section, and its tuples
pub inside : {A : Type 0} (f : A → Header) (limit p n : ℕ) (m : Meaning) (r : Result A Error) → length m.rest ≡ n → outcome_is f r ≡ header_past limit p m
    → IfOk r (λ h. Within n (f h))
inside f limit p n m (Ok h) q e = go (leb p (length m.rest)) refl (sym e)
  where
    go : (t : Bool) → leb p (length m.rest) ≡ t → (step_then (cond t (gives {A = Unit {0}} tt (past p m)) (refuses 1 m.id m)) (λ _ a. set_step limit p a)).outcome ≡ answer (f h) → Within n (f h)
    go true t e = rw q at (set_within limit p m (f h) (leb-true p (length m.rest) t) e)
    go false t e = cc
inside f limit p n m (Err x) q e = tt
