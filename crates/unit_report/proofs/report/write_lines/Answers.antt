use Rattle.std.proofs.Common.{string_bytes}
use Rattle.std.proofs.lemmas.Slice.Zip.{either_empty_from_Zip}
use Rattle.std.specs.Iterator.Adapters.{zip_first, zip_second}
use Rattle.std.specs.Slice.Iter.{iter_rest}
use Rattle.lookup.specs.Links.{looked_is}
use Rattle.unit_report.specs.ImageLinks.{image_is}
use Rattle.unit_report.proofs.Wrote.{written_all}
use Rattle.unit_report.proofs.report.write_lines.Goals as goal

pub returns : goal.returns
returns c =
    let so = c.loop-address.invariant in
    let it = c.loop-address.address-iterator in
    let ended = either_empty_from_Zip it c.next.new.self c.next.result c.in-None.is c.next.ensures.steps in (
      so.text,
      written_all (image_is c.args.image.now) _ (looked_is (λ x. x)) (iter_rest (zip_first it)) (iter_rest (zip_second it)) (string_bytes c.args.out.now) (string_bytes c.loop-address.out) ended so,
      so.added,
    )
