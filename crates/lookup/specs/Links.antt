-- How the code's lookups and searches stand for those of the definitions.
use Rattle.std.specs.Prelude.{◌≡◌, ℕ, Bool, true, false, not, List, length, slice_index_or, ◌<◌, Some, None, Ok, Err, Option, Result}
use Rattle.readers.specs.declared.error.Error.{Error}
use Rattle.readers.specs.Links.{fault_is}
use Rattle.aranges.specs.Answers.{Item}
use Rattle.aranges.specs.Links.{entry_is}
use Rattle.lookup.specs.declared.search.Found as Code
use Rattle.lookup.specs.declared.search.Lookup.{Lookup}
use Rattle.lookup.specs.declared.search.Search.{Search}
use Rattle.lookup.specs.Lookups.{Found, Looked, range, spoilt, missing}
use Rattle.lookup.specs.Searches.{looked_on, is_open}

-- the fields of a range that was found
abbrev pub found_is : {O : Type 0} → (O → ℕ) → Code.Found O → Found
found_is number f =
    record { entry = entry_is f.entry; info = number f.debug_info_offset.0; set = f.set.0; tuple = f.id.0 }

-- what a lookup came to
abbrev pub found_by : {O : Type 0} → (O → ℕ) → Option (Code.Found O) → ℕ → Looked
found_by number (Some f) p = range (found_is number f) p
found_by number None p = missing p

-- the answer of a lookup
abbrev pub looked_is : {O : Type 0} → (O → ℕ) → Result (Lookup O) Error → Looked
looked_is number (Ok l) = found_by number l.found l.passed
looked_is number (Err e) = spoilt (fault_is e)

-- what a search came to so far
abbrev pub looked_by : {O : Type 0} → (O → ℕ) → Result (Option (Code.Found O)) Error → ℕ → Looked
looked_by number (Ok o) p = found_by number o p
looked_by number (Err e) p = spoilt (fault_is e)

abbrev pub so_far : {O : Type 0} → (O → ℕ) → Search O → Looked
so_far number s = looked_by number s.found s.passed

-- a search went from s to t at an item
pub record Went {O : Type 0} (number : O → ℕ) (s : Search O) (x : Item) (t : Search O) : Type 0 where
  pub address : t.address ≡ s.address
  pub looked : so_far number t ≡ looked_on s.address (so_far number s) x

-- the same of one that goes on at the item, and then stops there if it is over
abbrev pub Sought : {O : Type 0} → (O → ℕ) → Search O → Item → Bool → Search O → Type 0
Sought number s x b t = is_open (so_far number s) ≡ true → Went number s x t × (b ≡ not (is_open (so_far number t)))

-- the same of searches side by side, which never stop
pub record WentEach {O : Type 0} (number : O → ℕ) (ss : List (Search O)) (x : Item) (b : Bool) (ts : List (Search O)) : Type 0 where
  pub same : length ts ≡ length ss
  pub each : (k : ℕ) (d : Search O) → k < length ss
      → Went number (slice_index_or ss k d) x (slice_index_or ts k d)
  pub goes_on : b ≡ false

-- a search before any item
abbrev pub new_search : {O : Type 0} → ℕ → Search O
new_search a = record { address = a; passed = 0; found = Ok None }

-- the answer of a search
abbrev pub lookup_of : {O : Type 0} → Search O → Result (Lookup O) Error
lookup_of s = elim s.found [ Ok f ↦ Ok (record { found = f; passed = s.passed }) | Err e ↦ Err e ]
