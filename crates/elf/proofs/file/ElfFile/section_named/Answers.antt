-- The search over the iterator finds what the list of all sections has first.
use Rattle.std.proofs.Common.{Ok, rules, tests, sym, ap, ◌∙◌}
use Rattle.std.proofs.lemmas.Iterator.Adapters.{option_map_id}
use Rattle.std.proofs.lemmas.Iterator.Search.{find_from_yields_List}
use Rattle.std.proofs.lemmas.Iterator.Consumers.{YieldsList-from_first}
use Rattle.elf.specs.Names.{has_name}
use Rattle.elf.specs.FileLinks.{sections_left}
use Rattle.elf.proofs.file.ElfFile.section_named.Goals as goal

pub returns : goal.returns
returns c =
    rw (← c.in_ok-names.ensures)
    (ap Ok (
    sym (option_map_id c.find.result)
    ∙ find_from_yields_List (has_name c.in_ok-names.names.now c.args.name.now) c.find.new.self _ c.find.result c.find.ensures.ran
    (YieldsList-from_first (λ x. x) sections_left {s = c.sections-sections.result} _ c.sections-sections.ensures) (λ x b q k. search (rules, tests))))
