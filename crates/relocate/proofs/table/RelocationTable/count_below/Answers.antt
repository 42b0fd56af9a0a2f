-- Where the records are sorted, those with lower offsets stand first.
use Rattle.std.proofs.Common.{rules, ltb, ltb-true, ltb-false}
use Rattle.std.proofs.lemmas.List.Sorted.{IsPartitionPoint-from_clause, IsPartitionedBy-ltb}
use Rattle.relocate.proofs.table.RelocationTable.count_below.Goals as goal

pub returns : goal.returns
returns g c =
    let n = λ (r : g.row.T.Denot). (g.T.Record.relocation r).offset in
    let sorted = IsPartitionedBy-ltb n _ c.args.offset (rw c.self.view_is at c.self.invariant) in
    let partitioned = rw (c.deref.ensures.value, c.self.view_is) at c.partition_point.ensures.partitioned in
    let point = IsPartitionPoint-from_clause (λ r. ltb (n r) c.args.offset) _ _ partitioned sorted (λ a r q k. search rules) in
    (λ k d l h. ltb-true _ _ (point.0 k d l h), λ k d l h. ltb-false _ _ (point.1 k d l h))
