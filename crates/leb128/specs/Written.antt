-- The groups of seven bits in which a number is written.
use Rattle.std.specs.Prelude.{◌≡◌, ℕ, ◌+◌, ◌/◌, ◌%◌, ◌<◌, ◌≤◌, Bool, List, [], ◌∷◌}
use Rattle.leb128.specs.Turned.{turned_group}

-- The bytes are the groups of n, lowest first, turned over or not. The first of them that is below the limit is the last, and
-- each before it says that another follows.
abbrev pub Groups : ℕ → Bool → ℕ → List ℕ → Type 0
Groups limit t n [] = ⊥
Groups limit t n (b ∷ []) = (n < limit) × (b ≡ turned_group t n)
Groups limit t n (b ∷ c ∷ bs) =
    (limit ≤ n) × (b ≡ turned_group t (n % 128) + 128) × Groups limit t (n / 128) (c ∷ bs)
