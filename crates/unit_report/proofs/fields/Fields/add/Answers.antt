use Rattle.std.proofs.Common.{◌||◌, ap, ◌∙◌}
use Rattle.std.specs.List.{list_any}
use Rattle.unit_report.specs.Fields.{field, is_of}
use Rattle.unit_report.specs.FieldLinks.{is_behind}
use Rattle.unit_report.proofs.Sets.{any_insert, or_assoc}
use Rattle.unit_report.proofs.fields.Fields.add.Goals as goal

pub returns : goal.returns
returns c = λ r.
    let end = is_behind c.args.self.now.end r.relocation.offset in
    let old = c.args.self.now.known.keys in
    ap (λ ks. end || list_any (is_of r) ks) c.in_ok-insert.ensures.keys
    ∙ ap (λ b. end || b) (any_insert (is_of r) (field c.args.place c.args.size) old)
    ∙ or_assoc end (list_any (is_of r) old) (is_of r (field c.args.place c.args.size))
