-- Each number that is read stands behind those before it, and a fault ends the row.
use Rattle.std.proofs.Common.{◌≡◌, ℕ, ◌+◌, ◌-◌, ◌<◌, List, [], ◌∷◌, ◌++◌, length, set, sym, ap, ◌∙◌, arith, length-append}
use Rattle.mallethill.specs.Told.{no_fault, buffer_with}
use Rattle.mallethill.specs.Rows.{Row, ended_at}
use Rattle.mallethill.specs.Numbers.{row, numbers_read}
use Rattle.mallethill.proofs.Fills.{filled_more}
use Rattle.mallethill.proofs.Rows.{behind, behind_item, behind_end, row_more, row_fault, row_empty, row_full, read_some}
use Rattle.mallethill.proofs.uleb128.read_row.Goals.{then-ends, else-ends}
use Rattle.mallethill.proofs.uleb128.read_row.Goals as goal

pub returns-in-Err : goal.returns-in-Err
returns-in-Err g c =
    let n = length c.args.numbers.now in
    let i = c.loop-count.invariant in
    let k = c.loop-count.count in
    let m = g.R.Reader.means c.loop-count.reader in
    let a = g.R.Reader.means c.read_uleb128.new.reader in
    let f = c.if-ends.fault in
    let lt : k < n = omega (arith, c.loop-count-test.true, c.loop-count.auto.numbers) in
    let end : row (n - k) m ≡ ended_at m.id f =
    elim c.if-ends.branch [
      | then-ends w ↦ row_empty (n - k) m (sym c.is_empty-ends.ensures ∙ w.if-ends.true) ∙ ap (ended_at m.id) (sym w.fault-is)
      | else-ends w ↦
          row_fault n k m a c.in-Err.error lt (sym c.is_empty-ends.ensures ∙ w.if-ends.false) c.in-Err.ensures
          ∙ ap (ended_at m.id) (sym (w.fault-is ∙ w.from-fault.ensures))
    ] in
    let all = i.3 ∙ ap (behind i.0) end ∙ behind_end i.0 m.id f in
    record {
      fault = sym (ap (λ (r : Row ℕ). r.ended) all);
      answer = ap (λ (j : ℕ). record { count = j; taken = c.offset_id-taken.result.0 }) (sym i.1)
          ∙ ap (λ (j : ℕ). record { count = length i.0; taken = j }) c.offset_id-taken.ensures ∙ sym (ap numbers_read all);
      numbers = i.2 ∙ sym (ap (λ (r : Row ℕ). buffer_with c.args.numbers.now r.items) all);
    }

pub loop-count-preserved : goal.loop-count-preserved
loop-count-preserved g c =
    let n = length c.args.numbers.now in
    let i = c.loop-count.invariant in
    let k = c.loop-count.count in
    let x = c.in-Ok.number in
    let m = g.R.Reader.means c.loop-count.reader in
    let a = g.R.Reader.means c.read_uleb128.new.reader in
    let e = read_some m a x c.in-Ok.ensures in
    let lt : k < n = omega (arith, c.loop-count-test.true, c.loop-count.auto.numbers) in (
      i.0 ++ x ∷ [],
      omega (arith, i.1, length-append i.0 (x ∷ [])),
      ap (λ (ns : List ℕ). set ns k x) i.2 ∙ filled_more c.args.numbers.now i.0 k x i.1 lt,
      i.3 ∙ ap (behind i.0) (row_more n k m a x lt e c.in-Ok.ensures) ∙ behind_item i.0 x (row (n - (k + 1)) a),
    )

pub returns-clause-numbers : goal.returns-clause-numbers
returns-clause-numbers g c =
    let n = length c.args.numbers.now in
    let i = c.loop-count.invariant in
    let k = c.loop-count.count in
    let m = g.R.Reader.means c.loop-count.reader in
    let end = row_full n k m (omega (arith, c.loop-count-test.false, c.loop-count.auto.numbers)) in
    let all = i.3 ∙ ap (behind i.0) end ∙ behind_end i.0 m.id no_fault in
    i.2 ∙ sym (ap (λ (r : Row ℕ). buffer_with c.args.numbers.now r.items) all)
