-- What a command line asks for.
use Rattle.std.specs.Prelude.{ℕ, Bool, true, false, if◌then◌else◌, ◌||◌, List, [], ◌∷◌, ◌++◌, Option, Some, None, Ok, Err, Result, codes, ◌==◌, slice_index, bytes_eq}
use Rattle.unit_report.specs.declared.address.AddressError.{AddressError}
use Rattle.unit_report.specs.declared.arguments.Argument.{Argument}
use Rattle.unit_report.specs.declared.arguments.Argument.TheVariants.{Help, Version, Strict, UnknownOption, Plain}
use Rattle.unit_report.specs.Addresses.{address_of}

-- what a word is for: an option by its name; another word that begins with a dash is no option, and
-- one that does not is the file or an address
abbrev pub argument_of : List ℕ → Argument
argument_of w =
    if bytes_eq w (codes "--help") || bytes_eq w (codes "-h") then Help
    else if bytes_eq w (codes "--version") || bytes_eq w (codes "-V") then Version
    else if bytes_eq w (codes "--strict") then Strict
    else if slice_index w 0 == 45 then UnknownOption else Plain

-- what the words so far tell: whether to halt at the first oddity, the file, and the addresses
pub record Settings : Type 0 where
  pub strict : Bool
  pub file : Option (List ℕ)
  pub addresses : List ℕ

abbrev pub settings : Bool → Option (List ℕ) → List ℕ → Settings
settings s f xs = record { strict = s; file = f; addresses = xs }

abbrev pub no_settings : Settings
no_settings = settings false None []

-- what is asked for: the usage, the version, or a report: whether it is strict, the file, and the
-- addresses
pub data Purpose : Type 0 where
  help : Purpose
  version : Purpose
  report : Bool → List ℕ → List ℕ → Purpose

-- why nothing is
pub data Misuse : Type 0 where
  no_file : Misuse
  unknown_option : List ℕ → Misuse
  bad_address : List ℕ → AddressError → Misuse

-- at a word the reading goes on, or the word decides alone
pub data Step : Type 0 where
  goes_on : Settings → Step
  ends : Result Purpose Misuse → Step

-- an address that a word names, behind those so far
abbrev pub address_step : Settings → List ℕ → Result ℕ AddressError → Step
address_step s w (Ok a) = goes_on (settings s.strict s.file (s.addresses ++ a ∷ []))
address_step s w (Err e) = ends (Err (bad_address w e))

-- a word that is no option: the first is the file
abbrev pub plain_step : Settings → List ℕ → Option (List ℕ) → Step
plain_step s w None = goes_on (settings s.strict (Some w) s.addresses)
plain_step s w (Some _) = address_step s w (address_of w)

abbrev pub word_step : Settings → List ℕ → Argument → Step
word_step s w Help = ends (Ok help)
word_step s w Version = ends (Ok version)
word_step s w Strict = goes_on (settings true s.file s.addresses)
word_step s w UnknownOption = ends (Err (unknown_option w))
word_step s w Plain = plain_step s w s.file

abbrev pub word_then : Step → (Settings → Result Purpose Misuse) → Result Purpose Misuse
word_then (goes_on s) f = f s
word_then (ends r) f = r

-- at the end a file has to be named
abbrev pub report_of_file : Settings → Option (List ℕ) → Result Purpose Misuse
report_of_file s (Some f) = Ok (report s.strict f s.addresses)
report_of_file s None = Err no_file

abbrev pub report_with : Settings → Result Purpose Misuse
report_with s = report_of_file s s.file

-- word by word, up to the first that decides alone
abbrev pub purpose_of : Settings → List (List ℕ) → Result Purpose Misuse
purpose_of s [] = report_with s
purpose_of s (w ∷ ws) = word_then (word_step s w (argument_of w)) (λ t. purpose_of t ws)
