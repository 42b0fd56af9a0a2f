-- How ranges are written into a buffer, one after another; only private functions cite this.
use Rattle.std.specs.Prelude.{◌≡◌, ℕ, ◌+◌, ◌-◌, ◌^◌, min, Bool, false, List, [], ◌∷◌, slice_set}
use Rattle.readers.specs.Outcome.{answer, fault}
use Rattle.aranges.specs.Tuples.{Entry}
use Rattle.aranges.specs.Answers.{Answer, Item, set, tuple, spoilt}
use Rattle.mallethill.specs.declared.ranges.AddressRange.{AddressRange}
use Rattle.mallethill.specs.declared.ranges.RangeWriter.{RangeWriter}
use Rattle.mallethill.specs.Ranges.{range_of}

-- the buffer, how many ranges were told, with room for them or without, and how many faulty tuples
pub record Written : Type 0 where
  pub buffer : List AddressRange
  pub count : ℕ
  pub passed : ℕ

abbrev pub written_by : RangeWriter → Written
written_by w = record { buffer = w.ranges.now; count = w.count; passed = w.passed }

-- one more, in a count that stays at the largest number
abbrev pub next_count : ℕ → ℕ
next_count n = min (n + 1) (2 ^ 64 - 1)

abbrev pub written_range : Written → Entry → Written
written_range w e =
    record {
      buffer = slice_set w.buffer w.count (range_of e);
      count = next_count w.count;
      passed = w.passed;
    }

abbrev pub written_fault : Written → Written
written_fault w = record { buffer = w.buffer; count = w.count; passed = next_count w.passed }

-- an item further
abbrev pub written_item : Written → Item → Written
written_item w (set h) = w
written_item w (tuple x) = elim x.outcome [ answer e ↦ written_range w e | fault f ↦ written_fault w ]
written_item w (spoilt p f) = w

-- answers one after another
abbrev pub with_answers : Written → List Answer → Written
with_answers w [] = w
with_answers w (x ∷ xs) = with_answers (written_item w (tuple x)) xs

-- a writer before an item, the item, that it does not stop, and the writer after it, at the same buffer
pub record Writes (w : RangeWriter) (x : Item) (stopped : Bool) (v : RangeWriter) : Type 0 where
  pub goes_on : stopped ≡ false
  pub name : v.ranges.ghost_name ≡ w.ranges.ghost_name
  pub written : written_by v ≡ written_item (written_by w) x
