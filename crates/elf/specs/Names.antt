-- The names of sections: each stands in the table of names, and a zero byte ends it.
use Rattle.std.specs.Prelude.{ℕ, Bool, ◌&&◌, List, length, drop, take, Ok, Result, Option, option_map, ok_or, ◌==◌, nat_eq, position, find, slice_index_or}
use Rattle.std.specs.List.{starts_with}
use Rattle.elf.specs.declared.error.ElfError.{ElfError}
use Rattle.elf.specs.declared.error.ElfError.TheVariants.{NameCutOff}
use Rattle.elf.specs.declared.section.Section.{Section}
use Rattle.elf.specs.Results.{result_then}
use Rattle.elf.specs.Files.{File, names_in, all_sections}

-- whether a name and a zero byte behind it stand at the section's place among the names
abbrev pub has_name : List ℕ → List ℕ → Section → Bool
has_name names name s =
    let rest = drop s.name names in
    starts_with nat_eq rest name && slice_index_or rest (length name) 1 == 0

-- the first section with a name
abbrev pub named_section : File → List ℕ → Result (Option Section) ElfError
named_section f name =
    result_then (names_in f) (λ names. Ok (find (has_name names name) (all_sections f)))

-- what stands in front of the first zero byte
abbrev pub text_before_zero : List ℕ → Option (List ℕ)
text_before_zero bytes = option_map (λ n. take n bytes) (position (λ b. b == 0) bytes)

-- the name of a section
abbrev pub section_name : File → Section → Result (List ℕ) ElfError
section_name f s =
    result_then (names_in f) (λ names.
    ok_or (text_before_zero (drop s.name names)) (NameCutOff s.index))
