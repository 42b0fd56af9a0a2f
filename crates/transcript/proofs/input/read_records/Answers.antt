-- The records one by one: one more.
use Rattle.std.proofs.Common.{◌≡◌, suc, ◌+◌, ◌-◌, vec_items, arith}
use Rattle.section_reader.specs.Means.{section_means}
use Rattle.transcript.specs.Input.{some_records}
use Rattle.transcript.proofs.Asking.{many_more}
use Rattle.transcript.proofs.input.read_records.Goals as goal

pub loop-preserved : goal.loop-preserved
loop-preserved c =
    let n = c.in_ok-count.count in
    let i = c.loop.counter in
    let less : n - i ≡ suc (n - (i + 1)) = omega arith in
    many_more (some_records n (section_means c.read_u16.new.reader)) (n - i) (n - (i + 1)) (vec_items c.loop.records) (vec_items c.push.new.self)
    c.in_ok-read_record.field-0 (section_means c.loop.input) (section_means c.read_record.new.input) less
    c.in_ok-push.ensures.items c.in_ok-read_record.ensures c.loop.invariant
