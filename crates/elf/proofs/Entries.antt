-- An entry of a table lies where the whole table does; and what is left of a range of entries.
use Rattle.std.proofs.Common.{ℕ, suc, ◌+◌, ◌-◌, ◌*◌, ◌≡◌, ◌<◌, ◌≤◌, ◌∷◌, map, ap, arith}
use Rattle.std.proofs.Math.Nat.{mul-le-mul_right}
use Rattle.std.specs.List.{range_with_len}

pub entry_within : (start count size all i : ℕ) → start + count * size ≤ all → i < count → start + i * size + size ≤ all
entry_within start count size all i within below = let h : suc i * size ≤ count * size = mul-le-mul_right size below in omega (arith, h)

-- the first of those left, and the others
pub first_left : {A : Type 0} (f : ℕ → A) (i end : ℕ) → i < end → map f (range_with_len i (end - i)) ≡ f i ∷ map f (range_with_len (i + 1) (end - (i + 1)))
first_left f i end below = let e : end - i ≡ suc (end - (i + 1)) = omega arith in ap (λ n. map f (range_with_len i n)) e
