-- What C is told of the ranges of a set.
use Rattle.std.specs.Prelude.{ℕ, ◌+◌, ◌^◌, Bool, List, length, map}
use Rattle.readers.specs.Outcome.{Outcome}
use Rattle.readers.specs.Reading.{plain_reader}
use Rattle.aranges.specs.Sets.{Header, header_past, span}
use Rattle.aranges.specs.Tuples.{Entry}
use Rattle.aranges.specs.Answers.{answers_on, entries_in, fault_count}
use Rattle.mallethill.specs.declared.ranges.AddressRange.{AddressRange}
use Rattle.mallethill.specs.declared.ranges.RangesRead.{RangesRead}

-- the range of an entry
abbrev pub range_of : Entry → AddressRange
range_of e = record { begin = e.begin; end = e.end }

-- the ranges that next answers on a set
abbrev pub ranges_of : Header → List AddressRange
ranges_of h = map range_of (entries_in (answers_on h))

-- the answer for a set
abbrev pub ranges_read : Header → RangesRead
ranges_read h =
    record {
      count = length (ranges_of h);
      passed = fault_count (answers_on h);
      debug_info_offset = h.info;
      next = h.place + span h;
    }

-- the set at an offset of a section, the order of whose bytes is told
abbrev pub set_at : List ℕ → Bool → ℕ → Outcome Header
set_at section big offset = header_past (2 ^ 64) offset (plain_reader 0 section big)
