use Rattle.std.proofs.Common.{map, length, vec_items}
use Rattle.section_reader.specs.Means.{section_means}
use Rattle.histories.specs.Links.{call_is}
use Rattle.transcript.proofs.Asking.{AskedSoFar}
use Rattle.transcript.proofs.input.read_commands.Given as goal

-- the calls so far, and then those that the bytes left ask for, are what all the bytes ask for
abbrev pub invariant-loop-input : goal.invariant-loop-input
invariant-loop-input l = AskedSoFar (section_means l.initial.input) (map call_is (vec_items l.initial.calls)) (vec_items l.calls) (section_means l.input)

abbrev pub decreases-loop-input : goal.decreases-loop-input
decreases-loop-input l = length (section_means l.input).rest
