use Rattle.std.proofs.Common.{Some, ap, ◌∙◌, option_map}
use Rattle.readers.specs.Links.{fault_is}
use Rattle.aranges.specs.Tuples.{converted}
use Rattle.aranges.specs.Links.{outcome_of}
use Rattle.aranges.proofs.Draws.{says_read, says_refused}
use Rattle.aranges.proofs.aranges.next_outcome.Goals as goal

pub convert_pair-requires : goal.convert_pair-requires
convert_pair-requires g c =
    (says_read converted c.args.address_size (g.R.Reader.means c.args.input.now) c.in-Ok-Some.field-0 c.in-Ok-Some.begin c.in-Ok-Some.length
    c.in-Ok-Some.field-0-is c.in-Ok-Some.ensures.answers).1

pub returns-in-Ok-Some-clause-answers : goal.returns-in-Ok-Some-clause-answers
returns-in-Ok-Some-clause-answers g c =
    ap Some c.convert_pair.ensures
    ∙ ap (option_map outcome_of)
    (says_read converted c.args.address_size (g.R.Reader.means c.args.input.now) c.in-Ok-Some.field-0 c.in-Ok-Some.begin c.in-Ok-Some.length
    c.in-Ok-Some.field-0-is c.in-Ok-Some.ensures.answers).0

pub returns-in-Err-clause-answers : goal.returns-in-Err-clause-answers
returns-in-Err-clause-answers g c =
    ap (option_map outcome_of) (says_refused converted c.args.address_size (g.R.Reader.means c.args.input.now) (fault_is c.in-Err.error) c.in-Err.ensures.answers)
