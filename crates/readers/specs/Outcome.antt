-- What a call may give: an answer, or a fault with its number and payload.
use Rattle.std.specs.Prelude.{ℕ}

-- a fault: its number, 1 to 14 (0 in `transcript`, for an input that is malformed), and what it tells beside
pub record Fault : Type 0 where
  pub number : ℕ
  pub payload : ℕ

-- what a call gives
pub data Outcome (A : Type 0) : Type 0 where
  answer : A → Outcome A
  fault : Fault → Outcome A

-- the fault with a number and a payload
abbrev pub fault_by : ℕ → ℕ → Fault
fault_by n p = record { number = n; payload = p }

-- the same as an outcome
abbrev pub fault_of : {A : Type 0} → ℕ → ℕ → Outcome A
fault_of n p = fault (fault_by n p)
