-- The report of a file, and the status that the program ends with.
use Rattle.std.specs.Prelude.{ℕ, Bool, true, false, List, [], ◌∷◌, ◌++◌, length, zip, flat_map, Option, Some, None, is_some, Ok, Result, codes, count_by, if◌then◌else◌, slice_get}
use Rattle.std.specs.Option.{option_map_or}
use Rattle.lookup.specs.Lookups.{Found, Looked, range, spoilt, missing}
use Rattle.unit_report.specs.declared.refusal.Refusal.{Refusal}
use Rattle.unit_report.specs.declared.report.Status.{Status}
use Rattle.unit_report.specs.declared.report.Status.TheVariants.{Complete, Failed, Misused}
use Rattle.unit_report.specs.Images.{Image, image_of, items_of, answers_at}
use Rattle.unit_report.specs.Lines.{file_line, section_line, relocated_line, oddity_line, survey_line, answer_text, place_text, total_line}
use Rattle.elf.specs.Results.{result_then}
use Rattle.unit_report.specs.Sections.{range_section}
use Rattle.unit_report.specs.Surveys.{Oddity, Survey, survey_of}

abbrev pub status_code : Status → ℕ
status_code Complete = 0
status_code Failed = 1
status_code Misused = 2

-- the lines that tell what the file and the section are
abbrev pub head_lines : Image → List ℕ
head_lines i =
    file_line i.file ++ (section_line i.section ++ relocated_line i.file.kind i.places)

-- a line for each oddity, none of which halts
abbrev pub oddity_lines : List Oddity → List ℕ
oddity_lines os = flat_map (oddity_line false) os

-- the range that an answer tells
abbrev pub found_in : Looked → Option Found
found_in (range f passed) = Some f
found_in (missing passed) = None
found_in (spoilt f) = None

-- whether a unit holds the address
abbrev pub is_found : Looked → Bool
is_found l = is_some (found_in l)

-- the section of the range that an answer tells
abbrev pub answer_section : Image → Looked → Result (Option (List ℕ)) Refusal
answer_section i l = option_map_or (range_section i) (found_in l) (Ok None)

-- the line of an address by its answer
abbrev pub answer_line : Image → ℕ → Looked → Result (List ℕ) Refusal
answer_line i a l =
    result_then (answer_section i l) (λ name.
    Ok (answer_text a l ++ (place_text name ++ codes "\n")))

-- a line for each address and its answer
abbrev pub answer_lines : Image → List (ℕ × Looked) → Result (List ℕ) Refusal
answer_lines i [] = Ok []
answer_lines i (x ∷ xs) =
    result_then (answer_line i x.0 x.1) (λ t.
    result_then (answer_lines i xs) (λ ts. Ok (t ++ ts)))

-- the lines of the addresses, and the totals
abbrev pub answers_text : Image → List ℕ → Result (List ℕ) Refusal
answers_text i xs =
    let ls = answers_at i xs in
    result_then (answer_lines i (zip xs ls)) (λ ts.
    Ok (ts ++ total_line (length xs) (count_by is_found ls)))

-- a status, and the text of a report
pub record Report : Type 0 where
  pub status : Status
  pub text : List ℕ

abbrev pub report : Status → List ℕ → Report
report s t = record { status = s; text = t }

-- the report where it is complete
abbrev pub complete_report : Image → Survey → List ℕ → Result Report Refusal
complete_report i s xs =
    result_then (answers_text i xs) (λ ts.
    Ok (report Complete (head_lines i ++ (oddity_lines s.oddities ++ (survey_line s ++ ts)))))

-- the oddity at which the report halts: the first one, where it is strict
abbrev pub halting_oddity : Bool → Survey → Option Oddity
halting_oddity strict s = if strict then slice_get s.oddities 0 else None

abbrev pub report_by : Image → Survey → List ℕ → Option Oddity → Result Report Refusal
report_by i s xs (Some o) = Ok (report Failed (head_lines i ++ oddity_line true o))
report_by i s xs None = complete_report i s xs

-- the report of a file that was opened
abbrev pub report_in : Bool → List ℕ → Image → Result Report Refusal
report_in strict xs i =
    let s = survey_of (items_of i) in report_by i s xs (halting_oddity strict s)

-- the report of the bytes of a file at some addresses
abbrev pub report_of : List ℕ → Bool → List ℕ → Result Report Refusal
report_of bytes strict xs = result_then (image_of bytes) (report_in strict xs)
