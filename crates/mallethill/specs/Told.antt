-- What C is told of an outcome: the fault that is returned, and what is written to the place of the answer.
use Rattle.std.specs.Prelude.{List, ◌++◌, length, take, drop}
use Rattle.readers.specs.Outcome.{Outcome, answer, fault}
use Rattle.readers.specs.Outcome as Outcome
use Rattle.mallethill.specs.declared.fault.Fault.{Fault}

-- a fault by its number and payload
abbrev pub c_fault : Outcome.Fault → Fault
c_fault f = record { payload = f.payload; number = f.number }

-- no fault
abbrev pub no_fault : Fault
no_fault = record { payload = 0; number = 0 }

-- what a call returns
abbrev pub returned_fault : {A : Type 0} → Outcome A → Fault
returned_fault (answer x) = no_fault
returned_fault (fault f) = c_fault f

-- what the place of an answer holds afterwards, if it held `before`
abbrev pub answer_or : {A : Type 0} → A → Outcome A → A
answer_or before (answer x) = x
answer_or before (fault f) = before

-- what a buffer holds afterwards, if a list is written to its front, as much of it as has room
abbrev pub buffer_with : {A : Type 0} → List A → List A → List A
buffer_with before xs = take (length before) xs ++ drop (length xs) before

-- an outcome with another answer in place of its own
abbrev pub outcome_map : {A B : Type 0} → (A → B) → Outcome A → Outcome B
outcome_map f (answer x) = answer (f x)
outcome_map f (fault e) = fault e
