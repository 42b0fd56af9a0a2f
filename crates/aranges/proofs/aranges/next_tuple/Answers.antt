use Rattle.std.proofs.Common.{◌≡◌, refl, inl, inr, arith}
use Rattle.aranges.specs.Iterators.{count}
use Rattle.aranges.proofs.Draws.{none_left, two_none}
use Rattle.aranges.proofs.aranges.next_tuple.Goals.{then-tuple_length-eq0-via-then-tuple_length-eq0, then-tuple_length-eq0-via-else-tuple_length-eq0+then-into_u64-tuple_length}
use Rattle.aranges.proofs.aranges.next_tuple.Goals as goal

pub returns-then-tuple_length-eq0 : goal.returns-then-tuple_length-eq0
returns-then-tuple_length-eq0 g c =
    let s = c.args.address_size in
    let m = g.R.Reader.means c.args.input.now in
    let n : count s m ≡ 0 = none_left s m (elim c.then-tuple_length-eq0.branch [
      | then-tuple_length-eq0-via-then-tuple_length-eq0 w ↦ inl (omega arith)
      | then-tuple_length-eq0-via-else-tuple_length-eq0+then-into_u64-tuple_length w ↦ inr (omega (arith, w.into_u64.ensures, w.len.ensures))
    ]) in
    let e = two_none s m n in
    rw (e, c.empty.ensures) (record { answers = refl; leaves = refl })
