-- How the code's values stand for what the definitions speak of: faults, outcomes, orders, formats.
use Rattle.std.specs.Prelude.{◌≡◌, ℕ, Bool, true, false, List, Ok, Err, Result}
use Rattle.readers.specs.declared.common.Format.{Format}
use Rattle.readers.specs.declared.common.Format.TheVariants.{Dwarf32, Dwarf64}
use Rattle.readers.specs.declared.endianity.RunTimeEndian.{RunTimeEndian}
use Rattle.readers.specs.declared.endianity.RunTimeEndian.TheVariants.{Little, Big}
use Rattle.readers.specs.declared.error.Error.{Error}
use Rattle.readers.specs.declared.error.Error.TheVariants.{UnexpectedEof, UnknownReservedLength, UnknownVersion, UnsupportedAddressSize, UnsupportedSegmentSize, UnsupportedOffset, UnsupportedOffsetSize, BadUnsignedLeb128, BadSignedLeb128, AddressOverflow, SectionTooLong, NothingOpen, RelocationRefused, BadLength}
use Rattle.readers.specs.Outcome.{Outcome, Fault, answer, fault, fault_by}
use Rattle.readers.specs.Reading.{Meaning, Step}

-- the number and the payload of each fault
abbrev pub fault_is : Error → Fault
fault_is (UnexpectedEof id) = fault_by 1 id.0
fault_is (UnknownReservedLength value) = fault_by 2 value
fault_is (UnknownVersion version) = fault_by 3 version
fault_is (UnsupportedAddressSize size) = fault_by 4 size
fault_is (UnsupportedSegmentSize size) = fault_by 5 size
fault_is UnsupportedOffset = fault_by 6 0
fault_is (UnsupportedOffsetSize size) = fault_by 7 size
fault_is BadUnsignedLeb128 = fault_by 8 0
fault_is BadSignedLeb128 = fault_by 9 0
fault_is AddressOverflow = fault_by 10 0
fault_is SectionTooLong = fault_by 11 0
fault_is NothingOpen = fault_by 12 0
fault_is (RelocationRefused offset) = fault_by 13 offset
fault_is (BadLength len) = fault_by 14 len

-- the outcome of a call whose answers stand for what `f` makes of them
abbrev pub outcome_is : {A B : Type 0} → (A → B) → Result A Error → Outcome B
outcome_is f (Ok x) = answer (f x)
outcome_is f (Err e) = fault (fault_is e)

-- whether the highest byte of a number comes first
abbrev pub is_big : RunTimeEndian → Bool
is_big Little = false
is_big Big = true

-- how many bytes a format's words have
abbrev pub format_word : Format → ℕ
format_word Dwarf32 = 4
format_word Dwarf64 = 8

-- a call did this step: its outcome, and the reader that it leaves
pub record Did {A B : Type 0} (f : A → B) (r : Result A Error) (after : Meaning) (s : Step B) : Type 0 where
  pub answers : outcome_is f r ≡ s.outcome
  pub leaves : after ≡ s.after

-- a call filled a buffer by this step, or refused and left the buffer as it was; of the buffer what
-- it held before and what it holds
pub record Filled (r : Result (Unit {0}) Error) (buffer : List ℕ × List ℕ) (after : Meaning)
    (s : Step (List ℕ)) : Type 0 where
  pub answers : outcome_is (λ _. buffer.1) r ≡ s.outcome
  pub leaves : after ≡ s.after
  pub refused : (e : Error) → r ≡ Err e → buffer.1 ≡ buffer.0
