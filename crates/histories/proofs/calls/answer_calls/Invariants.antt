use Rattle.std.proofs.Common.{◌≡◌, ◌++◌, map, drop, vec_items}
use Rattle.histories.proofs.Replays.{replay}
use Rattle.histories.specs.Links.{call_is, event_is}
use Rattle.walk.specs.Links.{walk_is}
use Rattle.histories.proofs.calls.answer_calls.Given as goal

-- the answers so far, and those of the calls left, are those of all calls
abbrev pub invariant-loop-call : goal.invariant-loop-call
invariant-loop-call g l =
    map (event_is g.R.Reader.means g.R.Offset.ReaderOffset.number) (vec_items l.answers)
    ++ replay g.R.Offset.ReaderOffset.limit (walk_is g.R.Reader.means g.R.Offset.ReaderOffset.number l.walk) (map call_is (drop l.call-index l.calls))
    ≡ replay g.R.Offset.ReaderOffset.limit (walk_is g.R.Reader.means g.R.Offset.ReaderOffset.number l.initial.walk) (map call_is l.calls)
