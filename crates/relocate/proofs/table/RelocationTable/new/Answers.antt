-- Sorted by the offset, and found at each offset as before.
use Rattle.std.proofs.Common.{rules}
use Rattle.std.specs.Prelude.{option_map}
use Rattle.std.proofs.lemmas.List.Sorted.{IsNonDecreasingBy-from_sort_by_key, answers_always}
use Rattle.relocate.specs.Relocating.{by_relocation}
use Rattle.relocate.proofs.Finding.{record_at-sorted}
use Rattle.relocate.proofs.table.RelocationTable.new.Goals as goal

pub invariant_of-result : goal.invariant_of-result
invariant_of-result g c =
    IsNonDecreasingBy-from_sort_by_key (λ r. (g.T.Record.relocation r).offset) _ c.in_ok-sort_by_key.ensures.sorted (λ a r q k. search rules)

pub returns : goal.returns
returns g c =
    let same =
    record_at-sorted g.T.Record.relocation _ _
    (c.sort_by_key.ensures.stable (λ r. (g.T.Record.relocation r).offset) (answers_always _ _ _ (λ f a r q k. search rules)))
    in
    record {
      found = same;
      values = λ i o v. by_relocation (option_map g.T.Record.relocation (same i o)) v;
      permutation = c.sort_by_key.ensures.permutation;
      succeeds = λ _. search rules;
    }
