-- One more call, the first bad command, and the end.
use Rattle.std.proofs.Common.{rules, ◌≡◌, ◌<◌, true, map, length, vec_items, arith}
use Rattle.section_reader.specs.Means.{section_means}
use Rattle.histories.specs.Links.{call_is}
use Rattle.transcript.specs.Input.{end}
use Rattle.transcript.proofs.Asking.{asks_more, asks_bad, asks_stop}
use Rattle.transcript.proofs.input.read_commands.Goals as goal

pub loop-input-preserved : goal.loop-input-preserved
loop-input-preserved c =
    asks_more (section_means c.args.input) (section_means c.loop-input.input) (section_means c.read_call.new.input) (map call_is (vec_items c.args.calls.now)) (vec_items c.loop-input.calls) (vec_items c.push.new.self) c.in_ok-read_call.field-0
    c.in_ok-push.ensures.items c.in_ok-read_call.ensures.read c.loop-input.invariant

pub returns-in_err-read_call : goal.returns-in_err-read_call
returns-in_err-read_call c =
    let some : 0 < length (section_means c.loop-input.input).rest = omega (arith, c.len.ensures) in
    let e =
    asks_bad c.in_err-read_call.field-0.0 (section_means c.args.input) (section_means c.loop-input.input) (section_means c.read_call.new.input) (map call_is (vec_items c.args.calls.now)) (vec_items c.loop-input.calls)
    c.in_err-read_call.ensures.read some c.loop-input.invariant
    in
    search rules

pub returns : goal.returns
returns c =
    let none : length (section_means c.loop-input.input).rest ≡ 0 = omega (arith, c.len.ensures) in
    asks_stop (section_means c.args.input) (section_means c.loop-input.input) true (map call_is (vec_items c.args.calls.now)) (vec_items c.loop-input.calls) c.loop-input.invariant (end none)
