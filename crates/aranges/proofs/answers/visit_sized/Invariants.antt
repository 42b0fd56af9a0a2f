use Rattle.std.proofs.Common.{◌+◌, ◌≤◌, map, length}
use Rattle.aranges.specs.Answers.{tuple, answers_on, answers_left}
use Rattle.aranges.specs.Links.{header_is}
use Rattle.aranges.proofs.Draws.{left}
use Rattle.aranges.proofs.Visits.{Leads}
use Rattle.aranges.proofs.answers.visit_sized.Given as goal

-- to be shown what is left is to be shown the whole, and each tuple took a byte
abbrev pub invariant-loop-answer : goal.invariant-loop-answer
invariant-loop-answer g l =
    Leads g.V.Visitor.visits l.initial.visitor (map tuple (answers_on (header_is g.R.Reader.means g.R.Offset.ReaderOffset.number l.header))) l.visitor
    (map tuple (answers_left (header_is g.R.Reader.means g.R.Offset.ReaderOffset.number l.header) l.number (left l.address_size (g.R.Reader.means l.input))))
    × (l.number + length (g.R.Reader.means l.input).rest ≤ l.total)

abbrev pub decreases-loop-answer : goal.decreases-loop-answer
decreases-loop-answer g l = length (g.R.Reader.means l.input).rest
