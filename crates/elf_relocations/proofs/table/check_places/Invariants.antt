use Rattle.elf_relocations.proofs.Places.{SeenSoFar}
use Rattle.elf_relocations.proofs.table.check_places.Given as goal

-- the places from here on repeat one that was seen, if all do
abbrev pub invariant-loop-record : goal.invariant-loop-record
invariant-loop-record l = SeenSoFar l.records l.seen l.record-index
