-- A set of address ranges: its header, field by field, and the reader of its tuples (DWARF 5, 6.1.2 and 7.21).
use Rattle.std.specs.Prelude.{ℕ, ◌+◌, ◌-◌, ◌*◌, ◌%◌, if◌then◌else◌, ◌||◌, ◌==◌}
use Rattle.readers.specs.Outcome.{Outcome}
use Rattle.readers.specs.Reading.{Meaning, Step, past, fixed_number, offset, skip_step, split_step, step_then, gives, refuses, length_size}
use Rattle.numbers.specs.Numbers.{Initial, initial, size_of_addresses}

-- What a header tells: the set's place in the section, the length that its initial length names, how many bytes a word
-- of its format has, its version, the size of an address, the place of its unit in .debug_info, and its tuples, which
-- are all bytes of the set behind the padding.
pub record Header : Type 0 where
  pub place : ℕ
  pub length : ℕ
  pub word : ℕ
  pub version : ℕ
  pub size : ℕ
  pub info : ℕ
  pub tuples : Meaning

-- how many bytes a whole set has
abbrev pub span : Header → ℕ
span h = length_size h.word + h.length

-- how many bytes the fields of a header have: initial length, version, offset, address size, segment size
abbrev pub header_size : ℕ → ℕ
header_size w = length_size w + 2 + w + 1 + 1

-- from there to the next multiple of a tuple's size, counted from the set's start
abbrev pub padding : ℕ → ℕ → ℕ
padding w s = (2 * s - header_size w % (2 * s)) % (2 * s)

-- the version, which is 2 or 3
abbrev pub version : Meaning → Step ℕ
version m =
    step_then (fixed_number 2 m) (λ v a. if v == 2 || v == 3 then gives v a else refuses 3 v a)

-- the size of an address, then the size of a segment selector, which is 0
abbrev pub sizes : Meaning → Step ℕ
sizes m =
    step_then (size_of_addresses m) (λ s a.
    step_then (fixed_number 1 a) (λ g b. if g == 0 then gives s b else refuses 5 g b))

-- the fields behind the initial length, of the set at place p: version, info offset, the two sizes, padding
abbrev pub fields : ℕ → ℕ → Initial → Meaning → Step Header
fields limit p i m =
    step_then (version m) (λ v a.
    step_then (offset limit i.word a) (λ o b.
    step_then (sizes b) (λ s c.
    step_then (skip_step (padding i.word s) c) (λ _ t.
    gives
    (record { place = p; length = i.length; word = i.word; version = v; size = s; info = o; tuples = t })
    t))))

-- the header of the set that begins at the reader, at place p of the section, or its fault; the set's bytes are read apart,
-- and the reader goes on past them
abbrev pub set_step : ℕ → ℕ → Meaning → Step Header
set_step limit p m =
    step_then (initial limit m) (λ i a.
    step_then (split_step i.length a) (λ set b.
    record { outcome = (fields limit p i set).outcome; after = b }))

-- the same without the reader
abbrev pub header : ℕ → ℕ → Meaning → Outcome Header
header limit p m = (set_step limit p m).outcome

-- the same at place p of the section that m has in full
abbrev pub header_at : ℕ → Meaning → ℕ → Outcome Header
header_at limit m p = header limit p (past p m)

-- the header behind the next p bytes, where there are as many
abbrev pub header_past : ℕ → ℕ → Meaning → Outcome Header
header_past limit p m = (step_then (skip_step p m) (λ _ a. set_step limit p a)).outcome
