use Rattle.std.proofs.Common.{◌≡◌, ◌==◌, Some, None, rules, tests, arith, sym, ◌∙◌}
use Rattle.std.specs.List.{position}
use Rattle.std.proofs.lemmas.Iterator.{YieldsList-from_slice}
use Rattle.std.proofs.lemmas.Iterator.Search.{position_from_yields_List}
use Rattle.section_reader.proofs.Parts.{length_part}
use Rattle.section_reader.proofs.section_reader.SectionReaderReader.find.Given.{Over}
use Rattle.section_reader.proofs.section_reader.SectionReaderReader.find.Goals.{After-position}
use Rattle.section_reader.proofs.section_reader.SectionReaderReader.find.Goals as goal

finds : (g : Over) (c : After-position g) → c.position.result ≡ position (λ x. x == c.args.byte) c.slice.result.now
finds g c = position_from_yields_List (λ x. x == c.args.byte) _ _ c.position.result c.position.ensures.ran (YieldsList-from_slice _ c.iter.ensures.rest) (λ x b q k. search (rules, tests))

pub returns-in-Some : goal.returns-in-Some
returns-in-Some g c =
    let at = goal.at.returns-in-Some g c in
    let found : Some c.in-Some.place ≡ position (λ x. x == c.args.byte) c.slice.result.now = sym c.in-Some.is ∙ finds g at.After-position in
    let s = c.args.self.now in
    let size = length_part s.first s.len s.section.now s.within in
    search (rules, arith)

pub returns-in-None : goal.returns-in-None
returns-in-None g c =
    let at = goal.at.returns-in-None g c in
    let found : None ≡ position (λ x. x == c.args.byte) c.slice.result.now = sym c.in-None.is ∙ finds g at.After-position in
    search rules
