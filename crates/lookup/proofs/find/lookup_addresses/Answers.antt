use Rattle.std.proofs.Common.{◌≡◌, ◌<◌, ◌^◌, map, length, ap, ◌∙◌, arith}
use Rattle.std.proofs.lemmas.Result.{IfOk-weaker}
use Rattle.aranges.specs.Answers.{items_in}
use Rattle.aranges.proofs.Few.{few_items}
use Rattle.lookup.specs.Lookups.{look_in}
use Rattle.lookup.specs.Links.{looked_is, lookup_of}
use Rattle.lookup.proofs.Each.{looks_each}
use Rattle.lookup.proofs.find.lookup_addresses.Goals as goal

pub returns : goal.returns
returns g c =
    let m = g.R.Reader.means c.args.section.now.section in
    let h : length (items_in g.R.Offset.ReaderOffset.limit m) < 2 ^ 64 = omega (arith, few_items g.R.Offset.ReaderOffset.limit m, c.visit.ensures.length, c.visit.type_inv) in
    let f = looked_is g.R.Offset.ReaderOffset.number in
    let ys = map (λ a. look_in g.R.Offset.ReaderOffset.limit a m) c.args.addresses.now in
    let e : map f (map lookup_of c.visit.new.visitor.0.items) ≡ ys =
    looks_each g.R.Offset.ReaderOffset.number c.args.addresses.now c.in_ok-open_searches.ensures h c.visit.ensures.shown.1 in
    IfOk-weaker c.finish_searches.result (λ v. v.items ≡ map lookup_of c.deref.result.now) (λ v. map f v.items ≡ ys)
    (λ v p. ap (map f) (p ∙ ap (map lookup_of) c.deref.ensures.value) ∙ e) c.finish_searches.ensures
