use Rattle.std.proofs.Common.{◌≡◌, length}
use Rattle.aranges.specs.Tuples.{raw}
use Rattle.aranges.specs.Iterators.{draw}
use Rattle.aranges.specs.Links.{entries_is}
use Rattle.aranges.proofs.Draws.{left}
use Rattle.aranges.proofs.aranges.ArangeEntryIter.next_raw.Given as goal

-- what is left gives what the whole gave, by the same encoding
abbrev pub invariant-loop-begin : goal.invariant-loop-begin
invariant-loop-begin g l =
    (draw raw (left l.initial.self.encoding.address_size (g.R.Reader.means l.self.input)) ≡ draw raw (entries_is g.R.Reader.means l.initial.self))
    × (l.self.encoding ≡ l.initial.self.encoding)

abbrev pub decreases-loop-begin : goal.decreases-loop-begin
decreases-loop-begin g l = length (g.R.Reader.means l.self.input).rest
