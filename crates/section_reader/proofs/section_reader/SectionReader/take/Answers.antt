use native.Mathlib.Omega.{arith}
use borrow.Author.Rules.{rules}
use Rattle.readers.specs.Links.{is_big}
use Rattle.section_reader.proofs.Parts.{length_part, past_is, front_between}
use Rattle.section_reader.proofs.section_reader.SectionReader.take.Goals as goal

pub returns-clause-did : goal.returns-clause-did
returns-clause-did g c =
    let s = c.args.self.now in
    let size = length_part s.first s.len s.section.now s.within in
    let past = past_is s.base s.first s.len s.section.now (is_big s.endian) c.args.len (omega arith) in
    let front = front_between s.base s.first s.len s.section.now (is_big s.endian) c.args.len (omega arith) in
    search rules
