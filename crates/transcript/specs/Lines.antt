-- What rangewalk writes: the line of an answer.
use Rattle.std.specs.Prelude.{ℕ, List, [], ◌∷◌, ◌++◌, Some, None, codes, decimal, Option}
use Rattle.readers.specs.Outcome.{Outcome, Fault, answer, fault}
use Rattle.readers.specs.Names.{name_of}
use Rattle.aranges.specs.Sets.{Header}
use Rattle.aranges.specs.Tuples.{Kind, converted, raw, Told, found, failed, over}
use Rattle.lookup.specs.Lookups.{Looked, range, spoilt, missing}
use Rattle.walk.specs.Events.{Event, header, entries, told, looked}

-- the end of a line: numbers in decimal, a space before each, and a newline
abbrev pub ending : List ℕ → List ℕ
ending [] = codes "\n"
ending (n ∷ ns) = codes " " ++ (decimal n ++ ending ns)

-- the line of a fault: its name and its payload
abbrev pub fault_line : Fault → List ℕ
fault_line f = codes "! " ++ (name_of f.number ++ ending (f.payload ∷ []))

-- the line that says that there is nothing left
abbrev pub none_line : List ℕ
none_line = codes "-" ++ ending []

-- the line of a header: its place, the size of a word, its version, the size of an address and its info offset
abbrev pub header_line : Outcome (Option Header) → List ℕ
header_line (answer (Some h)) =
    codes "H" ++ ending (h.place ∷ h.word ∷ h.version ∷ h.size ∷ h.info ∷ [])
header_line (answer None) = none_line
header_line (fault f) = fault_line f

-- the line of an answer to entries
abbrev pub entries_line : Outcome (Unit {0}) → List ℕ
entries_line (answer _) = codes "E" ++ ending []
entries_line (fault f) = fault_line f

-- the line of a tuple: of next with the range's begin and end, of next raw without an end
abbrev pub told_line : Kind → Told → List ℕ
told_line converted (found e) = codes "N" ++ ending (e.begin ∷ e.end ∷ e.length ∷ [])
told_line raw (found e) = codes "R" ++ ending (e.begin ∷ e.length ∷ [])
told_line converted (failed f) = fault_line f
told_line raw (failed f) = fault_line f
told_line converted over = none_line
told_line raw over = none_line

-- the line of a lookup: the range, its info offset, its set's place, and how many faulty tuples were passed
abbrev pub looked_line : Looked → List ℕ
looked_line (range f passed) =
    codes "L" ++ ending (f.entry.begin ∷ f.entry.end ∷ f.info ∷ f.set ∷ passed ∷ [])
looked_line (spoilt f) = fault_line f
looked_line (missing passed) = codes "-" ++ ending (passed ∷ [])

-- the line of a call's answer
abbrev pub line_of : Event → List ℕ
line_of (header o) = header_line o
line_of (entries o) = entries_line o
line_of (told k t) = told_line k t
line_of (looked _ l) = looked_line l

-- the lines of answers, one after another
abbrev pub lines_of : List Event → List ℕ
lines_of [] = []
lines_of (e ∷ es) = line_of e ++ lines_of es
