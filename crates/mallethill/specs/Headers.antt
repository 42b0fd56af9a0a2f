-- What C is told of the header of a set.
use Rattle.std.specs.Prelude.{ℕ, zero, suc, ◌+◌, ◌^◌, ◌≤◌, Bool, if◌then◌else◌, List, length, ◌==◌}
use Rattle.readers.specs.Outcome.{Outcome, answer, fault}
use Rattle.readers.specs.Reading.{plain_reader}
use Rattle.aranges.specs.Sets.{Header, header_past, span}
use Rattle.mallethill.specs.declared.header.HeadersRead.{HeadersRead}
use Rattle.mallethill.specs.declared.header.SetHeader.{SetHeader}
use Rattle.mallethill.specs.Told.{no_fault, c_fault, outcome_map}
use Rattle.mallethill.specs.Rows.{Row, ended_at, with_item}

-- the fields, and the offset behind the set
abbrev pub fields_of : Header → SetHeader
fields_of h =
    record {
      offset = h.place;
      length = h.length;
      debug_info_offset = h.info;
      next = h.place + span h;
      version = h.version;
      address_size = h.size;
      word_size = h.word;
    }

-- a set and its tuples have room in n bytes; only private functions cite this
abbrev pub Within : ℕ → Header → Type 0
Within n h = (h.place + span h ≤ n) × (length h.tuples.rest ≤ n)

-- the header at an offset of a section, the order of whose bytes is told
abbrev pub set_header_at : List ℕ → Bool → ℕ → Outcome SetHeader
set_header_at section big offset =
    outcome_map fields_of (header_past (2 ^ 64) offset (plain_reader 0 section big))

-- those of at most n sets end to end from an offset on, up to the section's end
abbrev pub headers_from : List ℕ → Bool → ℕ → ℕ → Row SetHeader
headers_from section big zero p = ended_at p no_fault
headers_from section big (suc n) p =
    if p == length section then ended_at p no_fault
    else
    (elim (set_header_at section big p)
    [ answer h ↦ with_item h (headers_from section big n h.next) | fault f ↦ ended_at p (c_fault f) ])

-- how many they are, and where they end
abbrev pub headers_read : Row SetHeader → HeadersRead
headers_read r = record { count = length r.items; next = r.place }
