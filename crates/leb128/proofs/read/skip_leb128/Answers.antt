use Rattle.std.proofs.Common.{length, sym, ◌∙◌}
use Rattle.std.proofs.lemmas.Bool.{lt-leb}
use Rattle.readers.specs.Reading.{gives}
use Rattle.leb128.specs.Leb128.{up_to, more}
use Rattle.readers.proofs.Steps.{gave, exits}
use Rattle.leb128.proofs.Spelling.{spelt_fault, spelt_last, passed_more}
use Rattle.leb128.proofs.read.skip_leb128.Goals as goal

pub returns-in_err-byte : goal.returns-in_err-byte
returns-in_err-byte g c =
    exits (λ x. x) c.from_residual.result c.in_err-byte.field-0.0 _ _ c.from_residual.ensures.1
    (sym c.loop-byte.invariant ∙ spelt_fault more (up_to (length (g.R.Reader.means c.loop-byte.reader).rest)) (λ _ a. gives tt a) _ _ _ c.in_err-byte.ensures)

pub returns-then-byte-lt128 : goal.returns-then-byte-lt128
returns-then-byte-lt128 g c =
    gave (λ x. x) _ _ _
    (sym c.loop-byte.invariant ∙ spelt_last more (up_to (length (g.R.Reader.means c.loop-byte.reader).rest)) (λ _ a. gives tt a) _ _ c.in_ok-byte.byte c.in_ok-byte.ensures (lt-leb 128 c.in_ok-byte.byte c.if-byte-lt128.true))

pub loop-byte-preserved : goal.loop-byte-preserved
loop-byte-preserved g c =
    sym (passed_more _ _ c.in_ok-byte.byte c.in_ok-byte.ensures c.if-byte-lt128.false) ∙ c.loop-byte.invariant
