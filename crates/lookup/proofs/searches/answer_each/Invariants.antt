use Rattle.aranges.specs.Answers.{tuple}
use Rattle.aranges.specs.Links.{header_is, answer_is}
use Rattle.lookup.specs.Links.{Went}
use Rattle.lookup.proofs.Each.{Changed}
use Rattle.lookup.proofs.searches.answer_each.Given as goal

-- the searches up to the index were shown the answer
abbrev pub invariant-loop-search : goal.invariant-loop-search
invariant-loop-search g l =
    Changed (λ s t. Went g.R.Offset.ReaderOffset.number s (tuple (answer_is (header_is g.R.Reader.means g.R.Offset.ReaderOffset.number l.header) l.answer)) t)
    l.search-index l.initial.searches l.searches
