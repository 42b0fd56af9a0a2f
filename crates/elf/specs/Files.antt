-- What the bytes of an ELF file say of it, or why they say nothing.
use Rattle.std.specs.Prelude.{ℕ, ◌+◌, ◌*◌, Bool, true, false, ◌&&◌, List, [], ◌∷◌, length, map, Ok, Err, Result, ◌==◌, nat_le, nat_lt, nat_eq, slice_index, if◌then◌else◌}
use Rattle.std.specs.List.{starts_with, range_with_len}
use Rattle.elf.specs.declared.error.ElfError.{ElfError}
use Rattle.elf.specs.declared.error.ElfError.TheVariants.{NotElf, UnknownClass, UnknownByteOrder, HeaderCutOff, SectionEntrySize, SectionTableCutOff, NoSection, NoSectionNames, NoBytes, SectionCutOff}
use Rattle.elf.specs.declared.file.FileKind.{FileKind}
use Rattle.elf.specs.declared.header.Header.{Header}
use Rattle.elf.specs.declared.section.Section.{Section}
use Rattle.readers.specs.Sections.{part}
use Rattle.elf.specs.Results.{only_if, result_then}
use Rattle.elf.specs.Words.{Words, number_at, word_at, words_by, has_bytes}
use Rattle.elf.specs.Kinds.{file_kind_of}
use Rattle.elf.specs.Sections.{section_size, section_entry, is_in_file}

-- the four bytes with which each ELF file begins: 0x7f and "ELF"
abbrev pub magic : List ℕ
magic = 127 ∷ 69 ∷ 76 ∷ 70 ∷ []

-- how many bytes a word has in a class
abbrev pub word_of_class : ℕ → Result ℕ ElfError
word_of_class c = if c == 1 then Ok 4 else (if c == 2 then Ok 8 else Err (UnknownClass c))

-- whether a byte order has the highest byte first
abbrev pub big_of_order : ℕ → Result Bool ElfError
big_of_order o = if o == 1 then Ok false else (if o == 2 then Ok true else Err (UnknownByteOrder o))

-- what the first 16 bytes say: bytes 4 and 5 have the class and the byte order
abbrev pub words_of : List ℕ → Result Words ElfError
words_of bytes =
    only_if (nat_le 16 (length bytes) && starts_with nat_eq bytes magic) NotElf
    (result_then (word_of_class (slice_index bytes 4)) (λ w.
    result_then (big_of_order (slice_index bytes 5)) (λ b.
    Ok (words_by bytes b w))))

-- the header takes 40 bytes and three words
abbrev pub header_of : Words → Result Header ElfError
header_of w =
    only_if (has_bytes w 0 (40 + 3 * w.word)) HeaderCutOff
    (Ok (record {
      kind = file_kind_of (number_at w 16 2);
      machine = number_at w 18 2;
      table = word_at w (24 + 2 * w.word);
      entry_size = number_at w (34 + 3 * w.word) 2;
      count = number_at w (36 + 3 * w.word) 2;
      names = number_at w (38 + 3 * w.word) 2;
    }))

-- a file: its bytes, kind and machine, and its section table: the place, how many sections it has,
-- and which of them has the names of sections
pub record File : Type 0 where
  pub words : Words
  pub kind : FileKind
  pub machine : ℕ
  pub table : ℕ
  pub count : ℕ
  pub names : ℕ

-- the file where it has no section
abbrev pub bare_file : Words → Header → File
bare_file w h =
    record { words = w; kind = h.kind; machine = h.machine; table = 0; count = 0; names = 0 }

-- A number of sections that is too large for the header is the size in the entry of section 0; an
-- index of the names that is too large is the link there.
abbrev pub section_count : Header → Section → ℕ
section_count h first = if h.count == 0 then first.size else h.count

abbrev pub names_index : Header → Section → ℕ
names_index h first = if h.names == 0xffff then first.link else h.names

-- the file with its section table, all of whose entries have to lie within the bytes
abbrev pub file_with_table : Words → Header → Result File ElfError
file_with_table w h =
    let size = section_size w.word in
    let first = section_entry w 0 h.table in
    let count = section_count h first in
    only_if (h.entry_size == size) (SectionEntrySize h.entry_size)
    (only_if (has_bytes w h.table size) SectionTableCutOff
    (only_if (has_bytes w h.table (count * size)) SectionTableCutOff
    (Ok (record (bare_file w h) { table = h.table; count = count; names = names_index h first }))))

-- what bytes say of a file; where the section table would be at 0 there are no sections
abbrev pub file_of : List ℕ → Result File ElfError
file_of bytes =
    result_then (words_of bytes) (λ w.
    result_then (header_of w) (λ h.
    if h.table == 0 then Ok (bare_file w h) else file_with_table w h))

-- the section of an index
abbrev pub section_in : File → ℕ → Section
section_in f i = section_entry f.words i (f.table + i * section_size f.words.word)

abbrev pub section_or : File → ℕ → Result Section ElfError
section_or f i = only_if (nat_lt i f.count) (NoSection i) (Ok (section_in f i))

-- n sections from an index on
abbrev pub sections_from : File → ℕ → ℕ → List Section
sections_from f i n = map (section_in f) (range_with_len i n)

abbrev pub all_sections : File → List Section
all_sections f = sections_from f 0 f.count

-- the bytes of a section, where it has bytes and they all lie within the file
abbrev pub data_of : File → Section → Result (List ℕ) ElfError
data_of f s =
    only_if (is_in_file s.kind) (NoBytes s.index)
    (only_if (has_bytes f.words s.offset s.size) (SectionCutOff s.index)
    (Ok (part s.offset s.size f.words.bytes)))

-- the table of section names; index 0 says that there is none
abbrev pub names_in : File → Result (List ℕ) ElfError
names_in f =
    if f.names == 0 then Err NoSectionNames
    else result_then (section_or f f.names) (data_of f)

-- the same file's numbers in other bytes
abbrev pub words_in : File → List ℕ → Words
words_in f bytes = words_by bytes f.words.big f.words.word
