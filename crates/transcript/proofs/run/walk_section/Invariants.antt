use Rattle.std.proofs.Common.{◌≡◌, ◌++◌, map, drop, string_bytes}
use Rattle.histories.specs.Links.{event_is}
use Rattle.transcript.specs.Lines.{lines_of}
use Rattle.transcript.proofs.run.walk_section.Given as goal

-- what is written, and then the lines of the answers left, is what all of them make
abbrev pub invariant-loop-answer : goal.invariant-loop-answer
invariant-loop-answer g l =
    string_bytes l.out ++ lines_of (map (event_is g.R.Reader.means g.R.Offset.ReaderOffset.number) (drop l.answer-index l.answer-items))
    ≡ string_bytes l.initial.out ++ lines_of (map (event_is g.R.Reader.means g.R.Offset.ReaderOffset.number) l.answer-items)
