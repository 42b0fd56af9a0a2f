-- The section in which a range of an object lies.
use Rattle.std.specs.Prelude.{ℕ, List, Option, Some, None, option_and_then, Ok, Result}
use Rattle.elf.specs.Files.{section_or}
use Rattle.elf.specs.Names.{section_name}
use Rattle.lookup.specs.Lookups.{Found}
use Rattle.unit_report.specs.declared.refusal.Refusal.{Refusal}
use Rattle.unit_report.specs.declared.refusal.Refusal.TheVariants.{Elf}
use Rattle.unit_report.specs.Images.{Image}
use Rattle.elf.specs.Results.{result_then_from}

-- the name of a section, if there is one
abbrev pub name_at : Image → Option ℕ → Result (Option (List ℕ)) Refusal
name_at i (Some n) =
    result_then_from Elf (section_or i.file n) (λ s.
    result_then_from Elf (section_name i.file s) (λ name. Ok (Some name)))
name_at i None = Ok None

-- the section that the relocation of a range's begin names, which stands first in the tuple
abbrev pub range_section : Image → Found → Result (Option (List ℕ)) Refusal
range_section i f = name_at i (option_and_then (λ r. r.section) (i.applied_at f.tuple))
