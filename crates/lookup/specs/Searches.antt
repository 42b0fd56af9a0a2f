-- A search that is under way, item by item.
use Rattle.std.specs.Prelude.{ℕ, ◌+◌, ◌%◌, ◌^◌, Bool, true, false, if◌then◌else◌}
use Rattle.readers.specs.Outcome.{answer, fault}
use Rattle.aranges.specs.Answers as items
use Rattle.aranges.specs.Answers.{Item, set, tuple}
use Rattle.lookup.specs.Lookups.{Looked, range, spoilt, missing, holds, found_at}

-- whether it goes on
abbrev pub is_open : Looked → Bool
is_open (range f c) = false
is_open (spoilt f) = false
is_open (missing c) = true

-- one fault more, in a count of 64 bits
abbrev pub one_more : ℕ → ℕ
one_more c = (c + 1) % 2 ^ 64

-- an item further, where nothing was found before
abbrev pub sought_at : ℕ → ℕ → Item → Looked
sought_at a c (set h) = missing c
sought_at a c (tuple x) =
    elim x.outcome [
      | answer e ↦ if holds a e then range (found_at x e) c else missing c
      | fault f ↦ missing (one_more c)
    ]
sought_at a c (items.spoilt p f) = spoilt f

-- an item further
abbrev pub looked_on : ℕ → Looked → Item → Looked
looked_on a (range f c) x = range f c
looked_on a (spoilt f) x = spoilt f
looked_on a (missing c) x = sought_at a c x
