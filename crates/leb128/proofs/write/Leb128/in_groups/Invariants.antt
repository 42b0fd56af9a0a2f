use Rattle.std.proofs.Common.{◌≡◌, ◌*◌, ◌^◌, ◌≤◌, ℕ, List, ◌++◌, length, take}
use Rattle.leb128.specs.Written.{Groups}
use Rattle.leb128.proofs.write.Leb128.in_groups.Given as goal

-- what is left fits behind what is written
abbrev pub invariant-loop-rest : goal.invariant-loop-rest
invariant-loop-rest l =
    (length l.bytes ≡ 10) × (l.len ≤ 9) × (2 ^ (7 * l.len) * l.rest ≤ l.val)
    × ((bs : List ℕ) → Groups l.limit l.negative l.rest bs → Groups l.limit l.negative l.val (take l.len l.bytes ++ bs))

abbrev pub decreases-loop-rest : goal.decreases-loop-rest
decreases-loop-rest l = l.rest
