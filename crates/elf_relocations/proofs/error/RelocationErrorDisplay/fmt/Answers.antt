-- The sentences with more than one number, at the variant that the match found.
use Rattle.elf_relocations.proofs.error.RelocationErrorDisplay.fmt.Goals as goal

pub returns-in-SymbolWithoutAddress-clause-writes : goal.returns-in-SymbolWithoutAddress-clause-writes
returns-in-SymbolWithoutAddress-clause-writes g c = rw c.in-SymbolWithoutAddress.is c.write-in-SymbolWithoutAddress.ensures.writes

pub returns-in-UnsupportedRelocation-clause-writes : goal.returns-in-UnsupportedRelocation-clause-writes
returns-in-UnsupportedRelocation-clause-writes g c = rw c.in-UnsupportedRelocation.is c.write-in-UnsupportedRelocation.ensures.writes
