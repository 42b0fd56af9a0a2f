-- The record behind those with lower offsets, if it is there.
use Rattle.std.proofs.Common.{rules, sym, arith}
use Rattle.relocate.proofs.Finding.{record_at_end, record_at_point}
use Rattle.relocate.proofs.table.RelocationTable.record_at.Goals as goal

pub returns-in_err-record : goal.returns-in_err-record
returns-in_err-record g c =
    let none = record_at_end g.T.Record.relocation c.args.offset _ _ c.count_below.ensures (search rules) in
    rw c.from_residual.ensures (sym none)

pub returns : goal.returns
returns g c =
    let found =
    record_at_point g.T.Record.relocation c.args.offset _ _ c.in_ok-record.record.now (rw c.self.view_is at c.self.invariant) c.count_below.ensures (search rules) (search rules)
    in
    rw (c.then_some.ensures, c.relocation.ensures, found) (grind arith)
