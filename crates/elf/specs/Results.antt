-- Results one after another.
use Rattle.std.specs.Prelude.{Bool, Ok, Err, Result, if◌then◌else◌}

-- the answer where a test holds, and else an error
abbrev pub only_if : {A E : Type 0} → Bool → E → Result A E → Result A E
only_if b e r = if b then r else Err e

-- one result after another, up to the first error: `r.and_then(f)`
abbrev pub result_then : {A B E : Type 0} → Result A E → (A → Result B E) → Result B E
result_then (Ok x) f = f x
result_then (Err e) f = Err e

-- the same, where `c` makes the error of the whole from that of the first
abbrev pub result_then_from : {A B D E : Type 0}
    → (D → E) → Result A D → (A → Result B E) → Result B E
result_then_from c (Ok x) f = f x
result_then_from c (Err e) f = Err (c e)

-- a result whose value stands for what `f` makes of it
abbrev pub result_is : {A B E : Type 0} → (A → B) → Result A E → Result B E
result_is f (Ok x) = Ok (f x)
result_is f (Err e) = Err e
