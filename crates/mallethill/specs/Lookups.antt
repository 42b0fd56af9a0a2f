-- What C is told of a lookup.
use Rattle.std.specs.Prelude.{ℕ, ◌^◌, Bool, true, false, List}
use Rattle.readers.specs.Outcome.{Outcome, answer, fault}
use Rattle.readers.specs.Reading.{plain_reader}
use Rattle.lookup.specs.Lookups.{Looked, range, spoilt, missing, look_in}
use Rattle.mallethill.specs.declared.found.FoundRange.{FoundRange}

-- no range, with the number of faulty tuples passed
abbrev pub nothing_found : ℕ → FoundRange
nothing_found p =
    record { debug_info_offset = 0; set = 0; begin = 0; end = 0; passed = p; found = false }

-- the fields of an answer
abbrev pub found_of : Looked → Outcome FoundRange
found_of (range f p) =
    answer (record {
      debug_info_offset = f.info;
      set = f.set;
      begin = f.entry.begin;
      end = f.entry.end;
      passed = p;
      found = true;
    })
found_of (missing p) = answer (nothing_found p)
found_of (spoilt f) = fault f

-- the lookup of an address in a section, the order of whose bytes is told
abbrev pub lookup_answer : List ℕ → Bool → ℕ → Outcome FoundRange
lookup_answer section big address = found_of (look_in (2 ^ 64) address (plain_reader 0 section big))
