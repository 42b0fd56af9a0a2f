-- How the code's command stands for what is asked for; want of memory may end the reading at any
-- place.
use Rattle.std.specs.Prelude.{◌≡◌, ◌≢◌, ℕ, List, length, Option, Some, None, Ok, Err, Result, option_map, vec_items}
use Rattle.std.specs.Str.{IsTrimAscii}
use Rattle.unit_report.specs.declared.arguments.Command.{Command}
use Rattle.unit_report.specs.declared.arguments.Command.TheVariants as command
use Rattle.unit_report.specs.declared.arguments.Settings as code
use Rattle.unit_report.specs.declared.arguments.UsageError.{UsageError}
use Rattle.unit_report.specs.declared.arguments.UsageError.TheVariants.{NoFile, UnknownOption, BadAddress, NoMemory}
use Rattle.unit_report.specs.Addresses.{address_of}
use Rattle.unit_report.specs.Arguments.{Settings, settings, Step, goes_on, ends, Purpose, help, version, report, Misuse, no_file, unknown_option, bad_address}

abbrev pub purpose_is : Command → Purpose
purpose_is command.Help = help
purpose_is command.Version = version
purpose_is (command.Report r) = report r.strict r.file.now (vec_items r.addresses)

abbrev pub settings_is : code.Settings → Settings
settings_is s = settings s.strict (option_map (λ x. x.now) s.file) (vec_items s.addresses)

-- a call was refused as the definition tells, where `f` is what it makes of a misuse
abbrev pub Misused : {A : Type 0} → UsageError → (Misuse → A) → A → Type 0
Misused NoFile f r = f no_file ≡ r
Misused (UnknownOption w) f r = f (unknown_option w.now) ≡ r
Misused (BadAddress w e) f r = f (bad_address w.now e) ≡ r
Misused NoMemory f r = Unit {0}

-- a call answered the command that the definition tells, or was refused as it tells
abbrev pub Parsed : Result Command UsageError → Result Purpose Misuse → Type 0
Parsed (Ok c) r = Ok (purpose_is c) ≡ r
Parsed (Err e) r = Misused e (λ m. Err m) r

-- a call took a word, and left other settings, or answered the command that it decides alone
abbrev pub Stepped : Result (Option Command) UsageError → Settings → Step → Type 0
Stepped (Ok None) after s = goes_on after ≡ s
Stepped (Ok (Some c)) after s = ends (Ok (purpose_is c)) ≡ s
Stepped (Err e) after s = Misused e (λ m. ends (Err m)) s

-- a call read the address that a word names, or told why it names none
abbrev pub Named : List ℕ → Result ℕ UsageError → Type 0
Named w (Ok a) = Ok a ≡ address_of w
Named w (Err (BadAddress v e)) = (v.now ≡ w) × (Err e ≡ address_of w)
Named w (Err NoFile) = ⊥
Named w (Err (UnknownOption v)) = ⊥
Named w (Err NoMemory) = ⊥

-- the same of a word that may be empty
abbrev pub NamedOrNone : List ℕ → Result (Option ℕ) UsageError → Type 0
NamedOrNone w (Ok None) = length w ≡ 0
NamedOrNone w (Ok (Some a)) = (length w ≢ 0) × Named w (Ok a)
NamedOrNone w (Err e) = (length w ≢ 0) × Named w (Err e)

-- the same of a line, without the blanks around what stands on it
abbrev pub OnLine : List ℕ → Result (Option ℕ) UsageError → Type 0
OnLine line r = (w : List ℕ) × IsTrimAscii line w × NamedOrNone w r
