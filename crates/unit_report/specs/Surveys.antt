-- A survey of a section: how many sets and ranges it has, and what is odd in it.
use Rattle.std.specs.Prelude.{ℕ, Bool, true, false, List, Option, Some, None, count_by, filter_map}
use Rattle.readers.specs.Outcome.{Outcome, Fault, answer, fault}
use Rattle.aranges.specs.Answers.{Answer, Item, set, tuple, spoilt}
use Rattle.aranges.specs.Tuples.{Entry}

-- what is odd: a tuple, by its set's place and its number, with its fault; or the header of the set
-- at a place, with its fault
pub data Oddity : Type 0 where
  spoilt_tuple : ℕ → ℕ → Fault → Oddity
  spoilt_header : ℕ → Fault → Oddity

abbrev pub is_tuple : Oddity → Bool
is_tuple (spoilt_tuple p k f) = true
is_tuple (spoilt_header p f) = false

-- how many of them are tuples
abbrev pub spoilt_tuples : List Oddity → ℕ
spoilt_tuples os = count_by is_tuple os

-- how many sets and ranges were read, and what was odd, in order
pub record Survey : Type 0 where
  pub sets : ℕ
  pub ranges : ℕ
  pub oddities : List Oddity

abbrev pub is_set : Item → Bool
is_set (set h) = true
is_set (tuple a) = false
is_set (spoilt p f) = false

-- whether a tuple answers a range, and what is odd in it, by its outcome
abbrev pub has_range : Outcome Entry → Bool
has_range (answer e) = true
has_range (fault f) = false

abbrev pub oddity_by : Answer → Outcome Entry → Option Oddity
oddity_by a (answer e) = None
oddity_by a (fault f) = Some (spoilt_tuple a.set.place a.number f)

abbrev pub is_range : Item → Bool
is_range (set h) = false
is_range (tuple a) = has_range a.outcome
is_range (spoilt p f) = false

abbrev pub oddity_of : Item → Option Oddity
oddity_of (set h) = None
oddity_of (tuple a) = oddity_by a a.outcome
oddity_of (spoilt p f) = Some (spoilt_header p f)

-- what the items of a section come to
abbrev pub survey_of : List Item → Survey
survey_of xs =
    record {
      sets = count_by is_set xs;
      ranges = count_by is_range xs;
      oddities = filter_map oddity_of xs;
    }
