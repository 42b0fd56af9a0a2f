-- From rangewalk's input to its output.
use Rattle.std.specs.Prelude.{◌≡◌, ℕ, ◌^◌, Bool, false, if◌then◌else◌, List, [], ◌++◌, map, Ok, Err, codes, Result}
use Rattle.readers.specs.Outcome.{Outcome, answer, fault}
use Rattle.readers.specs.Reading.{Meaning, plain_reader}
use Rattle.relocate.specs.Relocating.{Policy, layer}
use Rattle.walk.specs.Events.{Event}
use Rattle.histories.specs.Law.{Call, call}
use Rattle.histories.specs.Owed.{Owed}
use Rattle.transcript.specs.declared.input.Stop.{Stop}
use Rattle.transcript.specs.declared.input.Stop.TheVariants.{Malformed, NoMemory}
use Rattle.transcript.specs.declared.input.ReaderKind.{ReaderKind}
use Rattle.transcript.specs.declared.input.ReaderKind.TheVariants.{EndianSlice, EndianReader, RelocatedSlice, RelocatedReader}
use Rattle.transcript.specs.Input.{Heading, heading_step, Asks}
use Rattle.transcript.specs.Lines.{lines_of}

-- the first number that no offset of a reader kind stands for
abbrev pub limit_of : ReaderKind → ℕ
limit_of EndianSlice = 2 ^ 64
limit_of EndianReader = 2 ^ 32
limit_of RelocatedSlice = 2 ^ 64
limit_of RelocatedReader = 2 ^ 32

-- a section as a reader kind opens it, with ids from 0: as it stands, or relocated
abbrev pub section_as : ReaderKind → Bool → Policy → List ℕ → Meaning
section_as EndianSlice b p bs = plain_reader 0 bs b
section_as EndianReader b p bs = plain_reader 0 bs b
section_as RelocatedSlice b p bs = layer (2 ^ 64) p 0 (plain_reader 0 bs b)
section_as RelocatedReader b p bs = layer (2 ^ 32) p 0 (plain_reader 0 bs b)

-- the section of a heading
abbrev pub section_of : Heading → Meaning
section_of h = section_as h.kind h.big h.policy h.section

-- the lines of a lawful history of these calls, over the section that m has in full
pub record Walked (limit : ℕ) (m : Meaning) (cs : List Call) (out : List ℕ) : Type 0 where
  pub events : List Event
  pub asked : map call events ≡ cs
  pub owed : Owed limit m events
  pub lines : out ≡ lines_of events

-- the mark of a malformed input
abbrev pub mark : List ℕ
mark = codes "?\n"

-- the lines of the calls that the bytes behind a heading ask for, and the mark unless every command is good
pub record Answered (h : Heading) (m : Meaning) (out : List ℕ) : Type 0 where
  pub calls : List Call
  pub complete : Bool
  pub commands : Asks m calls complete
  pub lines : List ℕ
  pub walked : Walked (limit_of h.kind) (section_of h) calls lines
  pub whole : out ≡ lines ++ (if complete then [] else mark)

-- the same by what the heading came to: where it is malformed, the mark alone
abbrev pub ByHeading : Outcome Heading → Meaning → List ℕ → Type 0
ByHeading (answer h) m out = Answered h m out
ByHeading (fault _) m out = out ≡ mark

-- what rangewalk writes for an input
abbrev pub Transcript : List ℕ → List ℕ → Type 0
Transcript input out =
    ByHeading (heading_step (plain_reader 0 input false)).outcome
    (heading_step (plain_reader 0 input false)).after out

-- a text of which P holds was added at the end
abbrev pub Adds : List ℕ → List ℕ → (List ℕ → Type 0) → Type 0
Adds before after P = (out : List ℕ) × (after ≡ before ++ out) × P out

-- a call that never finds its input malformed added such a text, unless it lacked memory
abbrev pub Added : Result (Unit {0}) Stop → List ℕ → List ℕ → (List ℕ → Type 0) → Type 0
Added (Ok _) before after P = Adds before after P
Added (Err Malformed) before after P = ⊥
Added (Err NoMemory) before after P = Unit {0}

-- a call added the transcript of an input, which lacks the mark yet where the input is malformed
abbrev pub WroteTranscript : Result (Unit {0}) Stop → List ℕ → List ℕ → List ℕ → Type 0
WroteTranscript (Ok _) input before after = Adds before after (Transcript input)
WroteTranscript (Err Malformed) input before after = Adds before after (λ out. Transcript input (out ++ mark))
WroteTranscript (Err NoMemory) input before after = Unit {0}
