use Rattle.readers.specs.Links.{fault_is}
use Rattle.aranges.specs.Answers.{spoilt}
use Rattle.lookup.specs.Links.{Went}
use Rattle.lookup.proofs.Each.{Changed}
use Rattle.lookup.proofs.searches.spoil_each.Given as goal

-- the searches up to the index were shown the fault
abbrev pub invariant-loop-search : goal.invariant-loop-search
invariant-loop-search g l =
    Changed (λ s t. Went g.R.Offset.ReaderOffset.number s (spoilt l.offset.0 (fault_is l.error)) t) l.search-index l.initial.searches l.searches
