-- One place more is seen.
use Rattle.std.proofs.Common.{get_or, refl}
use Rattle.elf_relocations.proofs.Places.{seen_more}
use Rattle.elf_relocations.proofs.table.check_places.Goals as goal

pub loop-record-preserved : goal.loop-record-preserved
loop-record-preserved c =
    seen_more c.args.records.now c.loop-record.seen c.insert.new.self c.loop-record.record-index (get_or c.args.records.now c.loop-record.record-index _) _ c.in_ok-insert.field-0
    c.loop-record-test.true refl c.loop-record.invariant c.in_ok-insert.ensures.added c.if-not-branch.false c.in_ok-insert.ensures.updates
