-- What the fields of a reader mean.
use Rattle.std.specs.Prelude.{◌≡◌, ◌+◌}
use Rattle.readers.specs.declared.reader.ReaderOffset.{Ghosts}
use Rattle.readers.specs.Reading.{Meaning, plain_reader}
use Rattle.readers.specs.Sections.{part}
use Rattle.readers.specs.Links.{is_big}
use Rattle.section_reader.specs.declared.section_reader.SectionReader.{SectionReader}

-- the id is that of the section's first byte and the place from there
abbrev pub section_means : {O : Type 0} {g : Ghosts O} → SectionReader O g → Meaning
section_means s =
    plain_reader (s.base + s.first) (part s.first s.len s.section.now) (is_big s.endian)

-- both are parts of one section, which was opened with one base and order
pub record Kept {O : Type 0} {g : Ghosts O} (after before : SectionReader O g) : Type 0 where
  pub section : after.section.now ≡ before.section.now
  pub base : after.base ≡ before.base
  pub order : after.endian ≡ before.endian
