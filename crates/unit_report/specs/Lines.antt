-- The lines of a report.
use Rattle.std.specs.Prelude.{ℕ, ◌-◌, Bool, false, if◌then◌else◌, List, [], ◌++◌, Option, Some, None, codes, decimal, ◌==◌, map, nat_lt, ◌&&◌}
use Rattle.std.specs.Fmt.{digits}
use Rattle.readers.specs.Names.{fault_text}
use Rattle.elf.specs.declared.file.FileKind.{FileKind}
use Rattle.elf.specs.declared.file.FileKind.TheVariants.{Relocatable, Executable, Shared, Other}
use Rattle.elf.specs.declared.section.Section.{Section}
use Rattle.elf.specs.Files.{File}
use Rattle.elf.specs.declared.machine.Machine.{Machine}
use Rattle.elf.specs.Kinds.{machine_of}
use Rattle.elf.specs.Texts.{machine_name}
use Rattle.lookup.specs.Lookups.{Looked, range, spoilt, missing}
use Rattle.unit_report.specs.Surveys.{Oddity, spoilt_tuple, spoilt_header, spoilt_tuples, Survey}

-- a number in hexadecimal digits
abbrev pub hex : ℕ → List ℕ
hex n = codes "0x" ++ digits 16 false n

abbrev pub class_text : ℕ → List ℕ
class_text word = if word == 4 then codes "ELF32" else codes "ELF64"

abbrev pub order_text : Bool → List ℕ
order_text big = if big then codes "big-endian" else codes "little-endian"

abbrev pub kind_text : FileKind → List ℕ
kind_text Relocatable = codes "relocatable"
kind_text Executable = codes "executable"
kind_text Shared = codes "shared"
kind_text (Other k) = codes "kind " ++ decimal k

-- the number of a machine, and its name where it is known
abbrev pub number_with_name : ℕ → Option Machine → List ℕ
number_with_name n (Some m) = decimal n ++ (codes " (" ++ (machine_name m ++ codes ")"))
number_with_name n None = decimal n

abbrev pub machine_text : ℕ → List ℕ
machine_text n = number_with_name n (machine_of n)

-- what the file is
abbrev pub file_line : File → List ℕ
file_line f =
    codes "file: " ++ (class_text f.words.word
    ++ (codes ", " ++ (order_text f.words.big
    ++ (codes ", " ++ (kind_text f.kind
    ++ (codes ", machine " ++ (machine_text f.machine ++ codes "\n")))))))

-- in a file that is not linked a line tells how many places of the section are relocated
abbrev pub relocated_line : FileKind → ℕ → List ℕ
relocated_line Relocatable n = codes "relocated: " ++ (decimal n ++ codes " places\n")
relocated_line Executable n = []
relocated_line Shared n = []
relocated_line (Other k) n = []

-- where the section is
abbrev pub section_line : Section → List ℕ
section_line s =
    codes "section: .debug_aranges, " ++ (decimal s.size
    ++ (codes " bytes at " ++ (hex s.offset ++ codes "\n")))

-- what follows a spoilt tuple, and a spoilt header
abbrev pub tuple_end : Bool → List ℕ
tuple_end halts = if halts then codes "halted" else codes "passed"

abbrev pub header_end : Bool → List ℕ
header_end halts = if halts then codes "halted" else codes "the section ends here"

-- what is odd, and what follows: whether it halts there
abbrev pub oddity_line : Bool → Oddity → List ℕ
oddity_line halts (spoilt_tuple set number f) =
    codes "spoilt tuple: set " ++ (hex set
    ++ (codes ", tuple " ++ (decimal number
    ++ (codes ": " ++ (fault_text f
    ++ (codes "; " ++ (tuple_end halts ++ codes "\n")))))))
oddity_line halts (spoilt_header set f) =
    codes "spoilt header: set " ++ (hex set
    ++ (codes ": " ++ (fault_text f
    ++ (codes "; " ++ (header_end halts ++ codes "\n")))))

-- how much was read
abbrev pub survey_line : Survey → List ℕ
survey_line s =
    codes "read: sets " ++ (decimal s.sets
    ++ (codes ", ranges " ++ (decimal s.ranges
    ++ (codes ", spoilt tuples " ++ (decimal (spoilt_tuples s.oddities) ++ codes "\n")))))

-- the answer at an address, without the section of its range
abbrev pub answer_text : ℕ → Looked → List ℕ
answer_text a (range f passed) =
    hex a ++ (codes ": unit " ++ (hex f.info
    ++ (codes ", range " ++ (hex f.entry.begin ++ (codes ".." ++ (hex f.entry.end
    ++ (codes ", set " ++ (hex f.set ++ (codes ", tuples passed " ++ decimal passed)))))))))
answer_text a (missing passed) = hex a ++ (codes ": no unit, tuples passed " ++ decimal passed)
answer_text a (spoilt f) =
    hex a ++ (codes ": no unit before the spoilt header, " ++ fault_text f)

-- a byte of a name as it is shown: a question mark stands for those below 33 and above 126
abbrev pub shown_byte : ℕ → ℕ
shown_byte b = if nat_lt 32 b && nat_lt b 127 then b else 63

-- the section in which a range lies, where it is known
abbrev pub place_text : Option (List ℕ) → List ℕ
place_text (Some name) = codes ", in " ++ map shown_byte name
place_text None = []

-- the last line: how many addresses there are, and how many of them a unit holds
abbrev pub total_line : ℕ → ℕ → List ℕ
total_line all found =
    codes "total: addresses " ++ (decimal all
    ++ (codes ", found " ++ (decimal found
    ++ (codes ", not found " ++ (decimal (all - found) ++ codes "\n")))))
