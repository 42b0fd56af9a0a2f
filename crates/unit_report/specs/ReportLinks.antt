-- How what the code has written stands for what the definitions speak of; want of memory may end the
-- work at any place.
use Rattle.std.specs.Prelude.{◌≡◌, ℕ, List, ◌++◌, Ok, Err, Result, String, string_bytes}
use Rattle.std.specs.Global.{Global}
use Rattle.unit_report.specs.declared.refusal.Refusal.{Refusal}
use Rattle.unit_report.specs.ImageLinks.{Refused}

-- a call answered and added a text, of which `f` makes what the definition tells, or was refused as
-- that tells
abbrev pub Wrote : {A B : Type 0}
    → (A → List ℕ → B) → Result A Refusal → String Global → String Global → Result B Refusal
    → Type 0
Wrote f (Ok x) before after r =
    (t : List ℕ) × (Ok (f x t) ≡ r) × (string_bytes after ≡ string_bytes before ++ t)
Wrote f (Err e) before after r = Refused e r
