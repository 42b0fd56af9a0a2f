-- How the code's calls and answers stand for those of a history.
use Rattle.std.specs.Prelude.{ℕ, option_map}
use Rattle.readers.specs.Reading.{Meaning}
use Rattle.readers.specs.Links.{outcome_is}
use Rattle.aranges.specs.Tuples.{raw, converted}
use Rattle.aranges.specs.Links.{header_is, told_is}
use Rattle.walk.specs.Events.{Event, header, entries, told, looked}
use Rattle.lookup.specs.Links.{looked_is}
use Rattle.histories.specs.declared.calls.Answer.{Answer}
use Rattle.histories.specs.declared.calls.Answer.TheVariants.{Header, Entries, Next, NextRaw, Lookup}
use Rattle.histories.specs.declared.calls.Call.{Call}
use Rattle.histories.specs.declared.calls.Call.TheVariants.{NextHeader, Entries as AskEntries, Next as AskNext, NextRaw as AskNextRaw, Lookup as AskLookup}
use Rattle.histories.specs.Law.{next_header, entries_call, next_call, lookup_call}
use Rattle.histories.specs.Law as Law

-- a call that is asked
abbrev pub call_is : Call → Law.Call
call_is NextHeader = next_header
call_is AskEntries = entries_call
call_is AskNext = next_call converted
call_is AskNextRaw = next_call raw
call_is (AskLookup address) = lookup_call address

-- a call with its answer
abbrev pub event_is : {R O : Type 0} → (R → Meaning) → (O → ℕ) → Answer R O → Event
event_is means number (Header r) = header (outcome_is (option_map (header_is means number)) r)
event_is means number (Entries r) = entries (outcome_is (λ x. x) r)
event_is means number (Next r) = told converted (told_is r)
event_is means number (NextRaw r) = told raw (told_is r)
event_is means number (Lookup address r) = looked address (looked_is number r)
