use Rattle.std.proofs.Common.{refl, ◌<◌, ◌^◌, length, ap, ◌∙◌, arith}
use Rattle.aranges.specs.Answers.{items_in}
use Rattle.aranges.proofs.Few.{few_items}
use Rattle.lookup.specs.Links.{looked_is}
use Rattle.lookup.proofs.Seen.{seen, looks}
use Rattle.lookup.proofs.find.lookup_address.Goals as goal

pub returns : goal.returns
returns g c =
    let m = g.R.Reader.means c.args.section.now.section in
    let h : length (items_in g.R.Offset.ReaderOffset.limit m) < 2 ^ 64 = omega (arith, few_items g.R.Offset.ReaderOffset.limit m, c.visit.ensures.length, c.visit.type_inv) in
    ap (looked_is g.R.Offset.ReaderOffset.number) c.finish.ensures
    ∙ looks g.R.Offset.ReaderOffset.number c.visit.new.visitor c.args.address (items_in g.R.Offset.ReaderOffset.limit m) h
    (seen refl (rw c.new-search.ensures at c.visit.ensures.shown.1))
