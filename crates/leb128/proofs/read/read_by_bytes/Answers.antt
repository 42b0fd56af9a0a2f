use Rattle.std.proofs.Common.{◌≡◌, ◌+◌, ◌*◌, ◌^◌, [], sym, ap, ◌∙◌, arith}
use Rattle.readers.specs.Reading.{gives}
use Rattle.leb128.specs.Leb128.{more}
use Rattle.readers.proofs.Steps.{gave, refused, exits}
use Rattle.leb128.proofs.Spelling.{left, left_fails}
use Rattle.leb128.proofs.Unsigned.{ends, start, goes_on, ends_here, tenth_answers, tenth_refuses}
use Rattle.leb128.proofs.read.read_by_bytes.Goals as goal

pub loop-i-init : goal.loop-i-init
loop-i-init g c = (start (g.R.Reader.means c.args.reader.now), omega arith)

pub returns-in_err-byte : goal.returns-in_err-byte
returns-in_err-byte g c =
    exits (λ x. x) c.from_residual.result c.in_err-byte.field-0.0 _ _ c.from_residual.ensures.1
    (sym c.loop-i.invariant.0 ∙ left_fails more [] ends c.loop-i.i c.loop-i.result _ _ _ (omega arith) c.in_err-byte.ensures)

pub returns-then-byte-lt128 : goal.returns-then-byte-lt128
returns-then-byte-lt128 g c =
    gave (λ x. x) _ _ _
    (sym c.loop-i.invariant.0
    ∙ ends_here c.loop-i.i c.loop-i.result _ _ c.in_ok-byte.byte (omega arith) c.in_ok-byte.ensures c.if-byte-lt128.true
    ∙ ap (λ v. gives v (g.R.Reader.means c.read_u8.new.reader)) (sym c.with_group-result.ensures.value))

pub loop-i-preserved : goal.loop-i-preserved
loop-i-preserved g c = (
  ap (λ v. left more [] ends (c.loop-i.i + 1) v (g.R.Reader.means c.read_u8.new.reader)) c.with_group-result.ensures.value
      ∙ sym (goes_on c.loop-i.i c.loop-i.result _ _ c.in_ok-byte.byte (omega arith) c.in_ok-byte.ensures c.if-byte-lt128.false)
      ∙ c.loop-i.invariant.0,
  c.with_group-result.ensures.fits,
)

pub returns-in_err-last : goal.returns-in_err-last
returns-in_err-last g c =
    exits (λ x. x) c.from_residual-in_err-last.result c.in_err-last.field-0.0 _ _ c.from_residual-in_err-last.ensures.1
    (sym c.loop-i.invariant.0 ∙ left_fails more [] ends c.loop-i.i c.loop-i.result _ _ _ (omega arith) c.in_err-last.ensures)

pub returns-then-last-gt1 : goal.returns-then-last-gt1
returns-then-last-gt1 g c =
    let nine : c.loop-i.i ≡ 9 = omega arith in
    refused (λ x. x) _ _ _
    (sym c.loop-i.invariant.0 ∙ tenth_refuses c.loop-i.i c.loop-i.result _ _ c.in_ok-last.last nine c.in_ok-last.ensures c.if-last-gt1.true)

pub returns-else-last-gt1 : goal.returns-else-last-gt1
returns-else-last-gt1 g c =
    let nine : c.loop-i.i ≡ 9 = omega arith in
    let e : 2 ^ (7 * c.loop-i.i) ≡ 2 ^ 63 = ap (λ n. 2 ^ (7 * n)) nine in
    gave (λ x. x) _ _ _
    (sym c.loop-i.invariant.0 ∙ tenth_answers c.loop-i.i c.loop-i.result _ _ c.in_ok-last.last nine c.in_ok-last.ensures c.if-last-gt1.false (omega arith))
