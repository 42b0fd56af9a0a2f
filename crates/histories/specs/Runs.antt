-- Runs of whole sets, the longest of them, and what stands behind it.
use Rattle.std.specs.Prelude.{◌≡◌, ℕ, ◌+◌, List, [], ◌∷◌, ◌++◌, length, Some, None, Option, if◌then◌else◌, nat_lt}
use Rattle.readers.specs.Outcome.{Outcome, Fault, answer, fault}
use Rattle.readers.specs.Reading.{Meaning}
use Rattle.aranges.specs.Sets.{Header, header_at, span}

-- whole sets end to end, from the place p of the section that m has in full
abbrev pub Run : ℕ → Meaning → ℕ → List Header → Type 0
Run limit m p [] = Unit {0}
Run limit m p (h ∷ hs) = (header_at limit m p ≡ answer h) × Run limit m (p + span h) hs

-- the place where a run from the place p ends
abbrev pub end_from : ℕ → List Header → ℕ
end_from p [] = p
end_from p (h ∷ hs) = end_from (p + span h) hs

-- the first list is a beginning of the second
abbrev pub Begins : {A : Type 0} → List A → List A → Type 0
Begins {A} xs ys = (zs : List A) × (ys ≡ xs ++ zs)

-- the longest run from the opening on: every other run is a beginning of it
pub record Longest (limit : ℕ) (m : Meaning) (hs : List Header) : Type 0 where
  pub run : Run limit m 0 hs
  pub others : (gs : List Header) → Run limit m 0 gs → Begins gs hs

abbrev pub fault_in : Outcome Header → Option Fault
fault_in (answer _) = None
fault_in (fault f) = Some f

-- the fault of the header at a place, where bytes are left
abbrev pub fault_at : ℕ → Meaning → ℕ → Option Fault
fault_at limit m q =
    if nat_lt q (length m.rest) then fault_in (header_at limit m q) else None

-- the fault of what stands behind a run from the opening on, where bytes are left
abbrev pub fault_behind : ℕ → Meaning → List Header → Option Fault
fault_behind limit m hs = fault_at limit m (end_from 0 hs)
