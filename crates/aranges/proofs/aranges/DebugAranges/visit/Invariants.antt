use Rattle.std.proofs.Common.{◌≡◌, length}
use Rattle.aranges.specs.Answers.{items_in}
use Rattle.aranges.proofs.Visits.{Leads, items_all}
use Rattle.aranges.proofs.aranges.DebugAranges.visit.Given as goal

-- to be shown what is left is to be shown the whole
abbrev pub invariant-loop-header : goal.invariant-loop-header
invariant-loop-header g l =
    Leads g.V.Visitor.visits l.initial.visitor (items_in g.R.Offset.ReaderOffset.limit (g.R.Reader.means l.self.section)) l.visitor
    (items_all g.R.Offset.ReaderOffset.limit (g.R.Reader.means l.self.section).id (g.R.Reader.means l.headers.input))
    × (l.headers.start ≡ (g.R.Reader.means l.self.section).id)

abbrev pub decreases-loop-header : goal.decreases-loop-header
decreases-loop-header g l = length (g.R.Reader.means l.headers.input).rest
