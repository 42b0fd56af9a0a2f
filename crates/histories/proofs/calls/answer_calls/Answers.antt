use Rattle.std.proofs.Common.{◌≡◌, ◌<◌, ◌≤◌, map, length, vec_items, arith}
use Rattle.std.proofs.lemmas.List.{append-nil, append_assoc, drop_all, drop_more, map_push}
use Rattle.histories.specs.declared.calls.Call.TheVariants.{NextHeader}
use Rattle.histories.specs.Links.{call_is, event_is}
use Rattle.walk.specs.State.{open_walk}
use Rattle.histories.proofs.Replays.{replay, asked}
use Rattle.histories.proofs.Whole.{owed}
use Rattle.histories.proofs.calls.answer_calls.Goals as goal

pub returns : goal.returns
returns g c =
    let t = g.R.Offset.ReaderOffset.limit in
    let m = g.R.Reader.means c.args.section in
    let k = c.loop-call.call-index in
    let cs = map call_is c.args.calls.now in
    let es = map (event_is g.R.Reader.means g.R.Offset.ReaderOffset.number) (vec_items c.loop-call.answers) in
    let l : length c.args.calls.now ≤ k = omega arith in
    let e : es ≡ replay t (open_walk m) cs = rw (drop_all k c.args.calls.now l, append-nil es, c.new-walk.ensures) at c.loop-call.invariant in
    record { asked = rw e (asked t cs (open_walk m)); owed = rw e (owed t m cs) }

pub loop-call-preserved : goal.loop-call-preserved
loop-call-preserved g c =
    let k = c.loop-call.call-index in
    let l : k < length c.args.calls.now = omega arith in
    rw (c.in_ok-push.ensures.items, map_push, c.answer_call.ensures.happened, c.answer_call.ensures.leaves, append_assoc)
    (rw (drop_more c.args.calls.now k NextHeader l) at c.loop-call.invariant)
