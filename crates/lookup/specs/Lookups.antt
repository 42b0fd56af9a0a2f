-- A lookup: it goes over what a section answers to the first range that holds the address, and counts the faults it passes.
use Rattle.std.specs.Prelude.{ℕ, ◌+◌, Bool, ◌&&◌, if◌then◌else◌, List, [], ◌∷◌, nat_le, nat_lt}
use Rattle.readers.specs.Outcome.{Fault, answer, fault}
use Rattle.readers.specs.Reading.{Meaning}
use Rattle.aranges.specs.Tuples.{Entry}
use Rattle.aranges.specs.Answers as items
use Rattle.aranges.specs.Answers.{Answer, Item, set, tuple, items_in}

-- a range that holds an address: its entry, its unit's info offset, its set's place, and the id of its tuple's first byte
pub record Found : Type 0 where
  pub entry : Entry
  pub info : ℕ
  pub set : ℕ
  pub tuple : ℕ

-- a lookup's answer: a range with the number of faulty tuples passed; a header's fault; or that no range holds the
-- address, with that number
pub data Looked : Type 0 where
  range : Found → ℕ → Looked
  spoilt : Fault → Looked
  missing : ℕ → Looked

-- whether a range holds an address
abbrev pub holds : ℕ → Entry → Bool
holds a e = nat_le e.begin a && nat_lt a e.end

-- an answer as a range that was found
abbrev pub found_at : Answer → Entry → Found
found_at x e = record { entry = e; info = x.set.info; set = x.set.place; tuple = x.id }

-- what looking for an address gives, once c faults were passed
abbrev pub look : ℕ → ℕ → List Item → Looked
look a c [] = missing c
look a c (set h ∷ xs) = look a c xs
look a c (tuple x ∷ xs) =
    elim x.outcome [
      | answer e ↦ if holds a e then range (found_at x e) c else look a c xs
      | fault f ↦ look a (c + 1) xs
    ]
look a c (items.spoilt p f ∷ xs) = spoilt f

-- the same in a whole section
abbrev pub look_in : ℕ → ℕ → Meaning → Looked
look_in limit a m = look a 0 (items_in limit m)
