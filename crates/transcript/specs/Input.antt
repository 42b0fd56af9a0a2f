-- What the bytes of an input ask for: a reader kind, a byte order, relocation records, a section and commands.
use Rattle.std.specs.Prelude.{◌≡◌, ℕ, zero, suc, ◌<◌, Bool, true, false, if◌then◌else◌, List, [], ◌∷◌, ◌++◌, length, Some, None, Ok, Err, Option, Result, ◌==◌, nat_le}
use Rattle.readers.specs.Outcome.{Outcome, answer, fault}
use Rattle.readers.specs.Reading.{Meaning, Step, fixed_number, copy_step, step_then, gives, refuses}
use Rattle.readers.specs.Links.{is_big}
use Rattle.relocate.specs.declared.record.Relocation.{Relocation}
use Rattle.relocate.specs.Relocating.{Policy, kind_of, by_table, uniform_policy}
use Rattle.histories.specs.Law.{Call, next_header, entries_call, next_call, lookup_call}
use Rattle.aranges.specs.Tuples.{raw, converted}
use Rattle.transcript.specs.declared.input.Stop.{Stop}
use Rattle.transcript.specs.declared.input.Stop.TheVariants.{Malformed, NoMemory}
use Rattle.transcript.specs.declared.input.ReaderKind.{ReaderKind}
use Rattle.transcript.specs.declared.input.ReaderKind.TheVariants.{EndianSlice, EndianReader, RelocatedSlice, RelocatedReader}
use Rattle.transcript.specs.declared.head.Head.{Head}
use Rattle.transcript.specs.declared.input.Command.{Command}
use Rattle.transcript.specs.declared.input.Command.TheVariants.{NextHeader, Entries, Next, NextRaw, Lookup}

-- whether an outcome is a fault
abbrev pub is_fault : {A : Type 0} → Outcome A → Bool
is_fault (answer _) = false
is_fault (fault _) = true

-- a call read by this step: what it answers stands for the step's answer, and a malformed input for any fault of the
-- step; the reader after is the step's; a lack of memory says nothing
abbrev pub Read : {A B : Type 0} → (A → B) → Result A Stop → Meaning → Step B → Type 0
Read f (Ok x) after s = (answer (f x) ≡ s.outcome) × (after ≡ s.after)
Read f (Err Malformed) after s = (is_fault s.outcome ≡ true) × (after ≡ s.after)
Read f (Err NoMemory) after s = Unit {0}

-- a value that means nothing; 0 is the number of no other fault
abbrev pub malformed_step : {A : Type 0} → Meaning → Step A
malformed_step m = refuses 0 0 m

-- the reader kind of a number
abbrev pub kind_for : ℕ → Option ReaderKind
kind_for n =
    if n == 0 then Some EndianSlice else if n == 1 then Some EndianReader
    else if n == 2 then Some RelocatedSlice else if n == 3 then Some RelocatedReader else None

-- a reader kind, one byte
abbrev pub a_kind : ℕ → Meaning → Step ReaderKind
a_kind n m = elim (kind_for n) [ Some k ↦ gives k m | None ↦ malformed_step m ]

-- the reader kind that an input begins with
abbrev pub kind_step : Meaning → Step ReaderKind
kind_step m = step_then (fixed_number 1 m) a_kind

-- a byte order: whether the highest byte of a number comes first
abbrev pub an_order : ℕ → Meaning → Step Bool
an_order n m = if n == 0 then gives false m else if n == 1 then gives true m else malformed_step m

-- the byte order, one byte
abbrev pub order_step : Meaning → Step Bool
order_step m = step_then (fixed_number 1 m) an_order

-- a record: its offset of eight bytes, its kind of one byte and its amount of eight
abbrev pub record_step : Meaning → Step Relocation
record_step m =
    step_then (fixed_number 8 m) (λ o a.
    step_then (fixed_number 1 a) (λ k b.
    step_then (fixed_number 8 b) (λ v c.
    gives (record { offset = o; kind = kind_of k; amount = v }) c)))

-- one more record before others
abbrev pub record_before : Relocation → List Relocation → Meaning → Step (List Relocation)
record_before r rs m = gives (r ∷ rs) m

-- as many records as the number says
abbrev pub some_records : ℕ → Meaning → Step (List Relocation)
some_records zero m = gives [] m
some_records (suc n) m =
    step_then (record_step m) (λ r a. step_then (some_records n a) (record_before r))

-- the records behind their number, which is at most 256
abbrev pub from_count : ℕ → Meaning → Step (List Relocation)
from_count n m = if nat_le n 256 then some_records n m else malformed_step m

-- the number of records, two bytes, and the records
abbrev pub records_step : Meaning → Step (List Relocation)
records_step m = step_then (fixed_number 2 m) from_count

-- what some records make of addresses and offsets
abbrev pub policy_of : List Relocation → Policy
policy_of rs = uniform_policy (by_table (λ r. r) rs)

-- the records as a policy
abbrev pub policy_step : Meaning → Step Policy
policy_step m = step_then (records_step m) (λ rs a. gives (policy_of rs) a)

-- a section: its length of four bytes, and as many bytes
abbrev pub section_step : Meaning → Step (List ℕ)
section_step m = step_then (fixed_number 4 m) copy_step

-- what an input says before its commands
pub record Heading : Type 0 where
  pub kind : ReaderKind
  pub big : Bool
  pub policy : Policy
  pub section : List ℕ

-- its parts in their order
abbrev pub heading_step : Meaning → Step Heading
heading_step m =
    step_then (kind_step m) (λ k a.
    step_then (order_step a) (λ b c.
    step_then (policy_step c) (λ p d.
    step_then (section_step d) (λ s e.
    gives (record { kind = k; big = b; policy = p; section = s }) e))))

-- the same as code answers it
abbrev pub heading_is : Head → Heading
heading_is h =
    record
    { kind = h.kind; big = is_big h.endian; policy = policy_of h.table; section = h.section.now }

-- what a letter stands for: H, E, N, R or L
abbrev pub command_for : ℕ → Option Command
command_for l =
    if l == 72 then Some NextHeader else if l == 69 then Some Entries else if l == 78 then Some Next
    else if l == 82 then Some NextRaw else if l == 76 then Some Lookup else None

-- the lookup of an address
abbrev pub a_lookup : ℕ → Meaning → Step Call
a_lookup a m = gives (lookup_call a) m

-- the call of a command; the address of a lookup follows, eight bytes
abbrev pub by_command : Command → Meaning → Step Call
by_command NextHeader m = gives next_header m
by_command Entries m = gives entries_call m
by_command Next m = gives (next_call converted) m
by_command NextRaw m = gives (next_call raw) m
by_command Lookup m = step_then (fixed_number 8 m) a_lookup

-- the call of a letter
abbrev pub by_letter : ℕ → Meaning → Step Call
by_letter l m = elim (command_for l) [ Some c ↦ by_command c m | None ↦ malformed_step m ]

-- the call at the front of the commands
abbrev pub call_step : Meaning → Step Call
call_step m = step_then (fixed_number 1 m) by_letter

-- the bytes left ask for these calls, up to the first bad command, and whether there was none
pub data Asks : Meaning → List Call → Bool → Type 0 where
  end : {m : Meaning} → length m.rest ≡ 0 → Asks m [] true
  bad : {m : Meaning} → 0 < length m.rest → is_fault (call_step m).outcome ≡ true → Asks m [] false
  good : {m : Meaning} {c : Call} {cs : List Call} {all : Bool}
      → (call_step m).outcome ≡ answer c → Asks (call_step m).after cs all → Asks m (c ∷ cs) all

-- a call added to a list the calls that the bytes ask for, up to the first bad command, unless it lacked memory
abbrev pub Asked : Result (Unit {0}) Stop → Meaning → List Call → List Call → Type 0
Asked (Ok _) m before after = (cs : List Call) × (after ≡ before ++ cs) × Asks m cs true
Asked (Err Malformed) m before after = (cs : List Call) × (after ≡ before ++ cs) × Asks m cs false
Asked (Err NoMemory) m before after = Unit {0}
