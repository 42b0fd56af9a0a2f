use Rattle.std.proofs.Common.{rules}
use Rattle.unit_report.proofs.lines.write_survey.Goals as goal

pub returns : goal.returns
returns c = rw (← c.spoilt_tuples-spoilt.ensures) (search rules)
