use Rattle.std.proofs.Common.{map, zip, string_bytes}
use Rattle.std.specs.Iterator.Adapters.{zip_first, zip_second}
use Rattle.std.specs.Slice.Iter.{iter_rest}
use Rattle.lookup.specs.Links.{looked_is}
use Rattle.unit_report.specs.ImageLinks.{image_is}
use Rattle.unit_report.specs.Reports.{answer_lines}
use Rattle.unit_report.proofs.Wrote.{Written}
use Rattle.unit_report.proofs.report.write_lines.Given as goal

abbrev pub invariant-loop-address : goal.invariant-loop-address
invariant-loop-address l =
    Written (answer_lines (image_is l.image) (zip l.addresses (map (looked_is (λ x. x)) l.answers)))
    (answer_lines (image_is l.image) (zip (iter_rest (zip_first l.address-iterator)) (map (looked_is (λ x. x)) (iter_rest (zip_second l.address-iterator)))))
    (string_bytes l.fn.out) (string_bytes l.out)
