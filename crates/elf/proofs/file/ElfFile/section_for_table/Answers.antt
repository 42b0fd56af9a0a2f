-- The search over the iterator finds what the list of all sections has first.
use Rattle.std.proofs.Common.{rules, tests, sym, ◌∙◌}
use Rattle.std.proofs.lemmas.Iterator.Adapters.{option_map_id}
use Rattle.std.proofs.lemmas.Iterator.Search.{find_from_yields_List}
use Rattle.std.proofs.lemmas.Iterator.Consumers.{YieldsList-from_first}
use Rattle.elf.specs.Symbols.{is_for_table}
use Rattle.elf.specs.FileLinks.{sections_left}
use Rattle.elf.proofs.file.ElfFile.section_for_table.Goals as goal

pub returns : goal.returns
returns c =
    sym (option_map_id c.find.result)
    ∙ find_from_yields_List (is_for_table c.args.table) c.find.new.self _ c.find.result c.find.ensures.ran
    (YieldsList-from_first (λ x. x) sections_left {s = c.sections.result} _ c.sections.ensures) (λ x b q k. search (rules, tests))
