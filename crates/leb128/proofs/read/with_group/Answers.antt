use Rattle.std.proofs.Common.{◌*◌, arith}
use Rattle.leb128.proofs.Spelling.{seven_more}
use Rattle.leb128.proofs.read.with_group.Goals as goal

pub returns-clause-value : goal.returns-clause-value
returns-clause-value c = seven_more c.args.bits c.args.byte (7 * c.args.i) 64 c.requires.fit (omega arith)
