-- Rows of things that are read one behind another, until there is no more, no room, or a fault.
use Rattle.std.specs.Prelude.{ℕ, List, [], ◌∷◌}
use Rattle.mallethill.specs.declared.fault.Fault.{Fault}

-- the things read, the place behind the last of them, and the fault of what stands there, or none
pub record Row (A : Type 0) : Type 0 where
  pub items : List A
  pub place : ℕ
  pub ended : Fault

-- nothing was read
abbrev pub ended_at : {A : Type 0} → ℕ → Fault → Row A
ended_at p f = record { items = []; place = p; ended = f }

-- with one more in front
abbrev pub with_item : {A : Type 0} → A → Row A → Row A
with_item x r = record { items = x ∷ r.items; place = r.place; ended = r.ended }
