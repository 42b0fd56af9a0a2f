use Rattle.std.proofs.Common.{rules}
use Rattle.elf.specs.FileLinks.{file_is}
use Rattle.unit_report.specs.ImageLinks.{Refused}
use Rattle.unit_report.specs.Images.{image_with, checked_image}
use Rattle.unit_report.proofs.Opened.{same_image, checked, unchecked}
use Rattle.unit_report.proofs.image.Image.with_records.Goals as goal

pub returns-in_err-check_records : goal.returns-in_err-check_records
returns-in_err-check_records c =
    let t = c.in_ok-sorted_table in
    let f = file_is c.args.file in
    let rs = c.args.records.now in
    let i = image_with f c.args.section c.args.bytes.now t.field-0 in
    let j = image_with f c.args.section c.args.bytes.now rs in
    let same = same_image f c.args.section c.args.bytes.now t.field-0 rs t.ensures.found t.ensures.count in
    let w : Refused c.in_err-check_records.field-0.0 (checked_image j rs) =
    unchecked i j _ rs same c.aranges.ensures c.in_err-check_records.field-0.0 c.in_err-check_records.ensures in
    search rules

pub returns : goal.returns
returns c =
    let t = c.in_ok-sorted_table in
    let f = file_is c.args.file in
    let rs = c.args.records.now in
    let i = image_with f c.args.section c.args.bytes.now t.field-0 in
    let j = image_with f c.args.section c.args.bytes.now rs in
    let same = same_image f c.args.section c.args.bytes.now t.field-0 rs t.ensures.found t.ensures.count in
    checked i j _ rs same c.aranges.ensures c.in_ok-check_records.ensures
