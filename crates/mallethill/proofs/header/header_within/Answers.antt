-- A set that is read lies in the section.
use Rattle.std.proofs.Common.{◌^◌, ◌≡◌, length, ap, ◌∙◌}
use Rattle.readers.specs.Reading.{Meaning, plain_reader}
use Rattle.section_reader.specs.Means.{section_means}
use Rattle.aranges.specs.Links.{header_is}
use Rattle.mallethill.proofs.Spans.{inside}
use Rattle.mallethill.proofs.header.header_within.Goals as goal

pub returns-clause-inside : goal.returns-clause-inside
returns-clause-inside c =
    let m = section_means c.new-section.result.section in
    let same : m ≡ plain_reader 0 c.args.section.now c.args.big_endian = ap section_means c.new-section.ensures ∙ c.open.ensures in
    inside (header_is section_means (λ x. x)) (2 ^ 64) c.args.offset (length c.args.section.now) m c.header.result
    (ap (λ (n : Meaning). length n.rest) same) c.header.ensures
