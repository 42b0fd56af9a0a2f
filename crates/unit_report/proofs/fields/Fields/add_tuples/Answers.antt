use Rattle.std.proofs.Common.{◌≡◌, ℕ, suc, ◌+◌, ◌-◌, ◌*◌, ◌<◌, Bool, ◌||◌, sym, ap, ◌∙◌, arith}
use Rattle.std.specs.List.{list_any}
use Rattle.elf_relocations.specs.Records.{wrapping_add}
use Rattle.elf_relocations.specs.declared.record.Applied.{Applied}
use Rattle.unit_report.specs.Fields.{field, tuple_fields, is_of}
use Rattle.unit_report.specs.FieldLinks.{is_known}
use Rattle.unit_report.proofs.Sets.{or_assoc}
use Rattle.unit_report.proofs.fields.Fields.add_tuples.Goals as goal

-- the first of the tuples left is known
first_known : (r : Applied) (k i p s : ℕ) (b : Bool) → i < k
    → (((b || is_of r (field p s)) || is_of r (field (wrapping_add p s) s)) || list_any (is_of r) (tuple_fields (k - (i + 1)) (wrapping_add p (2 * s)) s))
    ≡ (b || list_any (is_of r) (tuple_fields (k - i) p s))
first_known r k i p s b h =
    let e : k - i ≡ suc (k - (i + 1)) = omega arith in
    let f = is_of r (field p s) in
    let g = is_of r (field (wrapping_add p s) s) in
    let rest = list_any (is_of r) (tuple_fields (k - (i + 1)) (wrapping_add p (2 * s)) s) in
    sym (or_assoc (b || f) g rest) ∙ sym (or_assoc b f (g || rest))
    ∙ ap (λ (n : ℕ). b || list_any (is_of r) (tuple_fields n p s)) (sym e)

pub loop-preserved : goal.loop-preserved
loop-preserved c = (
  omega (arith, c.loop-test.true),
  λ r.
      ap (λ (b : Bool). b || list_any (is_of r) (tuple_fields (c.args.count - (c.loop.counter + 1)) (wrapping_add c.loop.place (2 * c.args.size)) c.args.size))
      (c.in_ok-add-2.ensures r ∙ ap (λ (b : Bool). b || is_of r (field (wrapping_add c.loop.place c.args.size) c.args.size)) (c.in_ok-add.ensures r))
      ∙ first_known r c.args.count c.loop.counter c.loop.place c.args.size (is_known c.loop.self r) c.loop-test.true
      ∙ c.loop.invariant.1 r,
)
