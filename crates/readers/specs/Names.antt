-- How a fault is written: its name and its payload.
use Rattle.std.specs.Prelude.{ℕ, ◌-◌, List, [], ◌∷◌, ◌++◌, codes, decimal, slice_index_or}
use Rattle.readers.specs.Outcome.{Fault}

-- the names of the faults, in the order of their numbers, which begin with 1
abbrev pub fault_names : List (List ℕ)
fault_names =
    codes "UnexpectedEof" ∷ codes "UnknownReservedLength" ∷ codes "UnknownVersion"
    ∷ codes "UnsupportedAddressSize" ∷ codes "UnsupportedSegmentSize" ∷ codes "UnsupportedOffset"
    ∷ codes "UnsupportedOffsetSize" ∷ codes "BadUnsignedLeb128" ∷ codes "BadSignedLeb128"
    ∷ codes "AddressOverflow" ∷ codes "SectionTooLong" ∷ codes "NothingOpen"
    ∷ codes "RelocationRefused" ∷ codes "BadLength" ∷ []

-- the name of the fault with a number, 1 to 14
abbrev pub name_of : ℕ → List ℕ
name_of n = slice_index_or fault_names (n - 1) []

-- a fault's name, a space and its payload in decimal
abbrev pub fault_text : Fault → List ℕ
fault_text f = name_of f.number ++ (codes " " ++ decimal f.payload)
