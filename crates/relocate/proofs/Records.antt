-- What a table's records do, by the numbers of their kinds and from the first record on.
use Rattle.std.proofs.Common.{◌≡◌, ℕ, ◌+◌, ◌%◌, ◌^◌, Bool, true, false, cond, eqb, List, ◌∷◌, Option, Some, refl, arith}
use Rattle.std.specs.Prelude.{option_map, find}
use Rattle.readers.specs.Outcome.{answer, fault_of}
use Rattle.relocate.specs.declared.record.Relocation.{Relocation}
use Rattle.relocate.specs.Relocating.{kind_of, by_kind, by_relocation, by_table}

-- kind 0 adds the amount modulo 2^64, kind 1 puts it in the value's place, any other is refused with fault 13
pub by_number : (p k a v : ℕ) → by_kind (kind_of k) (record { offset = p; kind = kind_of k; amount = a }) v
    ≡ cond (eqb k 0) (answer ((v + a) % 2 ^ 64)) (cond (eqb k 1) (answer a) (fault_of 13 p))
by_number p k a v = grind arith

-- a table goes by its first record where that is at the offset, and else by the others
pub by_first : (r : Relocation) (rs : List Relocation) (o v : ℕ) → by_table (λ x. x) (r ∷ rs) o v
    ≡ cond (eqb r.offset o) (by_kind r.kind r v) (by_table (λ x. x) rs o v)
by_first r rs o v =
    elim (eqb r.offset o) as (λ (s : Bool). by_relocation (option_map (λ x. x) (cond s (Some r) (find (λ q. eqb q.offset o) rs))) v
    ≡ cond s (by_kind r.kind r v) (by_table (λ x. x) rs o v))
    [ true ↦ refl | false ↦ refl ]
