use Rattle.std.proofs.Common.{◌≡◌, length}
use Rattle.aranges.specs.Tuples.{converted}
use Rattle.aranges.specs.Iterators.{draw}
use Rattle.aranges.specs.Links.{entries_is}
use Rattle.aranges.proofs.Draws.{left}
use Rattle.aranges.proofs.aranges.ArangeEntryIter.next.Given as goal

-- what is left gives what the whole gave, by the same encoding
abbrev pub invariant-loop-outcome : goal.invariant-loop-outcome
invariant-loop-outcome g l =
    (draw converted (left l.initial.self.encoding.address_size (g.R.Reader.means l.self.input)) ≡ draw converted (entries_is g.R.Reader.means l.initial.self))
    × (l.self.encoding ≡ l.initial.self.encoding)

abbrev pub decreases-loop-outcome : goal.decreases-loop-outcome
decreases-loop-outcome g l = length (g.R.Reader.means l.self.input).rest
