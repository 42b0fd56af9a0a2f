use Rattle.std.proofs.Common.{[], ◌∷◌, ◌++◌, take, ◌+◌, ◌*◌, ◌^◌, ◌/◌, ◌≤◌, sym, ap, ◌∙◌, subst, append_assoc, arith, length-set}
use lib.Bits.{bit_or}
use Rattle.std.proofs.lemmas.Nat.{and_mask}
use Rattle.std.proofs.lemmas.List.{take_more_set}
use Rattle.leb128.specs.Turned.{turned_group}
use Rattle.leb128.specs.Written.{Groups}
use Rattle.leb128.proofs.Shortest.{room, less_left, groups_more}
use Rattle.leb128.proofs.write.Leb128.in_groups.Goals as goal

pub loop-rest-preserved : goal.loop-rest-preserved
loop-rest-preserved c =
    let n = c.loop-rest.len in
    let rest = c.loop-rest.rest in
    let bytes = c.loop-rest.bytes in
    let inv = c.loop-rest.invariant in
    let val = c.args.val in
    let t = c.args.negative in
    let old = take n bytes in
    let less = room n rest val inv.1 inv.2 (omega arith) (omega arith) in
    let one = take_more_set bytes n (bit_or c.turn.result 128) (omega arith) in (
      simp length-set inv.0,
      omega arith,
      less_left n rest val inv.2,
      λ bs g.
          subst (Groups c.args.limit t val) (sym (ap (λ w. w ++ bs) one ∙ append_assoc old (bit_or c.turn.result 128 ∷ []) bs))
          (inv.3 (bit_or c.turn.result 128 ∷ bs) (groups_more c.args.limit t rest c.turn.result bs (omega arith) (c.turn.ensures ∙ ap (turned_group t) (and_mask rest 7)) g)),
    )
