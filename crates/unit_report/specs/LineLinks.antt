-- How what the code writes stands for lines.
use Rattle.std.specs.Prelude.{◌≡◌, ℕ, Bool, true, false, List, ◌++◌, OnOk, Result, String, string_bytes}
use Rattle.std.specs.Global.{Global}
use Rattle.std.specs.declared.alloc.AllocError.{AllocError}
use Rattle.unit_report.specs.declared.lines.Then.{Then}
use Rattle.unit_report.specs.declared.lines.Then.TheVariants.{GoesOn, Halts}

-- whether the code halts
abbrev pub halts : Then → Bool
halts GoesOn = false
halts Halts = true

-- a call added a text, unless memory was short
abbrev pub Appends : Result (Unit {0}) AllocError → String Global → String Global → List ℕ → Type 0
Appends r before after text = OnOk r (string_bytes after ≡ string_bytes before ++ text)
