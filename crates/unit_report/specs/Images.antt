-- The section .debug_aranges of a file.
use Rattle.std.specs.Prelude.{ℕ, ◌^◌, List, length, map, if◌then◌else◌, Option, Some, None, option_map, Ok, Err, Result, codes}
use Rattle.readers.specs.Reading.{Meaning, plain_reader}
use Rattle.relocate.specs.Relocating.{by_relocation, record_at, uniform_policy, layer}
use Rattle.aranges.specs.Answers.{Item, items_in}
use Rattle.lookup.specs.Lookups.{Looked, look_in}
use Rattle.elf.specs.declared.section.Section.{Section}
use Rattle.elf.specs.Files.{File, file_of, data_of}
use Rattle.elf.specs.Names.{named_section}
use Rattle.elf.specs.Sections.{is_compressed}
use Rattle.elf_relocations.specs.declared.record.Applied.{Applied}
use Rattle.elf_relocations.specs.Tables.{table_of}
use Rattle.unit_report.specs.declared.refusal.Refusal.{Refusal}
use Rattle.unit_report.specs.declared.refusal.Refusal.TheVariants.{Elf, Relocation, NoSection, Compressed}
use Rattle.unit_report.specs.Fields.{fields_check}
use Rattle.elf.specs.Results.{result_then, result_then_from}

-- a file, its section, the section's bytes, and the relocations of the section: what is applied at
-- each place, and how many places that are
pub record Image : Type 0 where
  pub file : File
  pub section : Section
  pub bytes : List ℕ
  pub applied_at : ℕ → Option Applied
  pub places : ℕ

-- the section as it is read: ids are places in it, and its addresses and offsets are relocated
abbrev pub aranges_of : Image → Meaning
aranges_of i =
    layer (2 ^ 64)
    (uniform_policy (λ o. by_relocation (option_map (λ a. a.relocation) (i.applied_at o)))) 0
    (plain_reader 0 i.bytes i.file.words.big)

-- what the section answers
abbrev pub items_of : Image → List Item
items_of i = items_in (2 ^ 64) (aranges_of i)

-- the first range that holds each address
abbrev pub answers_at : Image → List ℕ → List Looked
answers_at i xs = map (λ a. look_in (2 ^ 64) a (aranges_of i)) xs

-- a section that was found, which may not be compressed
abbrev pub plain_section : Option Section → Result Section Refusal → Result Section Refusal
plain_section (Some s) r = if is_compressed s then Err Compressed else Ok s
plain_section None r = r

-- where the name is missing, an older one says that the section is compressed
abbrev pub no_section : Option Section → Result Section Refusal
no_section (Some _) = Err Compressed
no_section None = Err NoSection

-- the first section with the name
abbrev pub aranges_section : File → Result Section Refusal
aranges_section f =
    result_then_from Elf (named_section f (codes ".debug_aranges")) (λ s.
    plain_section s (result_then_from Elf (named_section f (codes ".zdebug_aranges")) no_section))

-- the relocations of an image, of which each has to be of a number that is read
abbrev pub image_with : File → Section → List ℕ → List Applied → Image
image_with f s bytes rs =
    record {
      file = f;
      section = s;
      bytes = bytes;
      applied_at = record_at (λ a. a.relocation) rs;
      places = length rs;
    }

abbrev pub checked_image : Image → List Applied → Result Image Refusal
checked_image i rs = result_then (fields_check (items_of i) rs) (λ _. Ok i)

-- what the bytes of a file have; each relocation has to be of a number that is read
abbrev pub image_of : List ℕ → Result Image Refusal
image_of bytes =
    result_then_from Elf (file_of bytes) (λ f.
    result_then (aranges_section f) (λ s.
    result_then_from Elf (data_of f s) (λ d.
    result_then_from Relocation (table_of f s.index) (λ rs.
    checked_image (image_with f s d rs) rs))))
