-- How the code's headers, entries and iterators stand for those of the definitions.
use Rattle.std.specs.Prelude.{◌≡◌, ℕ, Bool, List, [], ◌∷◌, is_some, Some, None, Option, Result, option_map}
use Rattle.std.specs.declared.ops.ControlFlow.{ControlFlow}
use Rattle.std.specs.ControlFlow.{break_value}
use Rattle.readers.specs.declared.error.Error.{Error}
use Rattle.readers.specs.Outcome.{Outcome, answer, fault, fault_of}
use Rattle.readers.specs.Reading.{Meaning}
use Rattle.readers.specs.Links.{format_word, outcome_is}
use Rattle.aranges.specs.declared.aranges.ArangeEntry.{ArangeEntry}
use Rattle.aranges.specs.declared.aranges.ArangeEntryIter.{ArangeEntryIter}
use Rattle.aranges.specs.declared.aranges.ArangeHeader.{ArangeHeader}
use Rattle.aranges.specs.declared.answers.Answer as Answer
use Rattle.aranges.specs.Answers as Answers
use Rattle.aranges.specs.Sets.{Header}
use Rattle.aranges.specs.Tuples.{Entry, Says, nothing, entry, overflow, refused, Told, found, failed, over}
use Rattle.aranges.specs.Iterators.{Left}

-- the fields of a header
abbrev pub header_is : {R O : Type 0} → (R → Meaning) → (O → ℕ) → ArangeHeader R O → Header
header_is means number h =
    record {
      place = h.offset.0;
      length = number h.length;
      word = format_word h.encoding.format;
      version = h.encoding.version;
      size = h.encoding.address_size;
      info = number h.debug_info_offset.0;
      tuples = means h.entries;
    }

-- the fields of an entry
abbrev pub entry_is : ArangeEntry → Entry
entry_is e = record { begin = e.range.begin; end = e.range.end; length = e.length }

-- the outcome of a tuple's answer
abbrev pub outcome_of : Says → Outcome (Option Entry)
outcome_of nothing = answer None
outcome_of (entry e) = answer (Some e)
outcome_of overflow = fault_of 10 0
outcome_of (refused f) = fault f

-- what an outcome tells
abbrev pub told_of : Outcome (Option Entry) → Told
told_of (answer (Some e)) = found e
told_of (answer None) = over
told_of (fault f) = failed f

-- what the answer of next or next raw tells
abbrev pub told_is : Result (Option ArangeEntry) Error → Told
told_is r = told_of (outcome_is (option_map entry_is) r)

-- the tuples that an iterator has left
abbrev pub entries_is : {R O : Type 0} → (R → Meaning) → ArangeEntryIter R O → Left
entries_is means i = record { size = i.encoding.address_size; tuples = means i.input }

-- a call of next or next raw: what it told, and what it leaves
pub record Drew (r : Result (Option ArangeEntry) Error) (after : Left) (d : Told × Left) : Type 0 where
  pub answers : told_is r ≡ d.0
  pub leaves : after ≡ d.1

-- an answer of next on a set
abbrev pub answer_is : Header → Answer.Answer → Answers.Answer
answer_is h a =
    record { set = h; number = a.number; id = a.id.0; outcome = outcome_is entry_is a.outcome }

-- an answer and those behind it, or none
abbrev pub answers_are : Header → Option Answer.Answer → List Answers.Answer → List Answers.Answer
answers_are h None xs = []
answers_are h (Some a) xs = answer_is h a ∷ xs

-- whether a visitor stops
abbrev pub is_break : ControlFlow (Unit {0}) (Unit {0}) → Bool
is_break f = is_some (break_value f)
