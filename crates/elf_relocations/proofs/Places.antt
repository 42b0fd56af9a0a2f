-- The places of the records so far: which of them are seen, and whether one is seen again.
use Rattle.std.proofs.Common.{◌≡◌, ℕ, ◌+◌, ◌<◌, Bool, true, not, ◌==◌, List, [], ◌∷◌, map, length, get_or, drop, sym, ◌∙◌, arith}
use Rattle.std.specs.List.{list_any}
use Rattle.std.specs.Ordering.{nat_cmp}
use Rattle.std.specs.BTreeSet.{BTreeSet, contains, Updates}
use Rattle.std.proofs.lemmas.Bool.{not-true}
use Rattle.std.proofs.lemmas.List.{drop_more}
use Rattle.elf_relocations.specs.declared.record.Applied.{Applied}
use Rattle.elf_relocations.specs.Tables.{first_repeat}

abbrev pub place_of : Applied → ℕ
place_of r = r.relocation.offset

-- the set has the places that were seen, and those from index i on repeat one of them, if all do
pub record SeenSoFar (rs : List Applied) (seen : BTreeSet ℕ) (i : ℕ) : Type 0 where
  pub places : List ℕ
  pub has : (q : ℕ) → contains nat_cmp seen q ≡ list_any (λ x. x == q) places
  pub repeats : first_repeat places (map place_of (drop i rs)) ≡ first_repeat [] (map place_of rs)

pub seen_more : (rs : List Applied) (seen new : BTreeSet ℕ) (i : ℕ) (x d : Applied) (added : Bool) → i < length rs → x ≡ get_or rs i d → SeenSoFar rs seen i
    → added ≡ not (contains nat_cmp seen (place_of x)) → added ≡ true → Updates nat_cmp seen new (place_of x) true → SeenSoFar rs new (i + 1)
seen_more rs seen new i x d added below is so e t updates =
    record {
      places = place_of x ∷ so.places;
      has = λ q. rw (updates.0 q, so.has q) (grind arith);
      repeats = rw (drop_more rs i d below, ← is, sym (so.has (place_of x)) ∙ not-true _ (sym e ∙ t)) at so.repeats;
    }
