use Rattle.std.proofs.Common.{◌≡◌, get_or, sym, ap, ◌∙◌, arith}
use Rattle.readers.specs.Reading.{past, gives, refuses}
use Rattle.leb128.specs.Leb128.{unsigned_leb128}
use Rattle.readers.proofs.Steps.{gave, refused}
use Rattle.leb128.proofs.Ahead.{shown_one, shown_first, shown_goes_on, shown_ends, shown_tenth, shown_refuses}
use Rattle.leb128.proofs.read.read_uleb128.Goals.{then-loop-i-test+then-byte-lt128, else-loop-i-test+else-tenth-gt1}
use Rattle.leb128.proofs.read.read_uleb128.Goals as goal

pub loop-i-init : goal.loop-i-init
loop-i-init g c = (
  shown_first _ _ c.in-Some.ensures.0 c.in-Some.ensures.1 c.with_group-result.result c.with_group-result.ensures.value c.if-first-lt128.false,
  c.with_group-result.ensures.fits,
)

pub loop-i-preserved : goal.loop-i-preserved
loop-i-preserved g c = (
  shown_goes_on _ _ c.in-Some.ensures.0 c.in-Some.ensures.1 c.loop-i.i c.loop-i.result c.loop-i.invariant.0 (omega arith) c.with_group-result-in-loop-i.result c.with_group-result-in-loop-i.ensures.value c.if-byte-lt128.false,
  c.with_group-result-in-loop-i.ensures.fits,
)

pub returns-then-first-lt128 : goal.returns-then-first-lt128
returns-then-first-lt128 g c =
    gave (λ x. x) _ _ _
    (shown_one _ _ c.in-Some.ensures.0 c.in-Some.ensures.1 c.if-first-lt128.true ∙ ap (λ a. gives (get_or c.in-Some.bytes.now 0 0) a) (sym c.pass.ensures))

pub returns-then-tenth-gt1 : goal.returns-then-tenth-gt1
returns-then-tenth-gt1 g c =
    refused (λ x. x) _ _ _
    (shown_refuses _ _ c.in-Some.ensures.0 c.in-Some.ensures.1 c.loop-i.i c.loop-i.result c.loop-i.invariant.0 (omega arith) c.if-tenth-gt1.true
    ∙ ap (λ a. refuses 8 0 a) (sym c.pass-then-tenth-gt1.ensures))

pub returns-after-loop-i : goal.returns-after-loop-i
returns-after-loop-i g c =
    let m = g.R.Reader.means c.args.reader.now in
    let value = c.loop-i-test.value in
    let read : unsigned_leb128 m ≡ gives value.0 (past value.1 m) =
    elim c.loop-i-test.branch [
      | then-loop-i-test+then-byte-lt128 w ↦
          shown_ends _ _ c.in-Some.ensures.0 c.in-Some.ensures.1 c.loop-i.i c.loop-i.result c.loop-i.invariant.0 w.loop-i-test.true w.with_group-result-in-loop-i.result w.with_group-result-in-loop-i.ensures.value w.if-byte-lt128.true
          ∙ ap (λ p. gives p.0 (past p.1 m)) (sym w.value-is)
      | else-loop-i-test+else-tenth-gt1 w ↦
          shown_tenth _ _ c.in-Some.ensures.0 c.in-Some.ensures.1 c.loop-i.i c.loop-i.result c.loop-i.invariant.0 (let most = c.loop-i.auto.i-end (omega arith) in omega (arith, w.loop-i-test.false)) w.if-tenth-gt1.false c.loop-i.invariant.1
          ∙ ap (λ p. gives p.0 (past p.1 m)) (sym w.value-is)
    ] in
    gave (λ x. x) _ _ _ (read ∙ ap (λ a. gives c.loop-i-test.value.0 a) (sym c.pass-else-first-lt128.ensures))
