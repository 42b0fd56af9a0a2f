use Rattle.std.proofs.Common.{◌-◌, vec_items}
use Rattle.section_reader.specs.Means.{section_means}
use Rattle.transcript.specs.Input.{some_records}
use Rattle.transcript.proofs.Asking.{ReadSoMany}
use Rattle.transcript.proofs.input.read_records.Given as goal

-- the records so far and those that are left are all that the number promises
abbrev pub invariant-loop : goal.invariant-loop
invariant-loop l = ReadSoMany (some_records l.count (section_means l.initial.input)) (l.count - l.counter) (vec_items l.records) (section_means l.input)
