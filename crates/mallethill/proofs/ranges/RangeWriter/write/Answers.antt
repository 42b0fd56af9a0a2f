-- What a visit shows is written.
use Rattle.aranges.specs.Answers.{answers_on}
use Rattle.aranges.specs.Links.{header_is}
use Rattle.mallethill.proofs.Written.{shown}
use Rattle.mallethill.proofs.ranges.RangeWriter.write.Goals as goal

pub returns-clause-name : goal.returns-clause-name
returns-clause-name g c = (shown (answers_on (header_is g.R.Reader.means g.R.Offset.ReaderOffset.number c.args.header.now)) c.visit.ensures).0

pub returns-clause-written : goal.returns-clause-written
returns-clause-written g c = (shown (answers_on (header_is g.R.Reader.means g.R.Offset.ReaderOffset.number c.args.header.now)) c.visit.ensures).1
