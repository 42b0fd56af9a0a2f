-- A test of the fields of a set to which one was added.
use Rattle.std.proofs.Common.{◌≡◌, ℕ, Bool, true, false, ◌||◌, List, [], ◌∷◌, Ordering, Less, Equal, Greater, nat_cmp, refl, sym, ap, ◌∙◌}
use Rattle.std.proofs.lemmas.Map.Lookups.{exact_pairs, exact_unsigned}
use Rattle.std.specs.List.{list_any}
use Rattle.std.specs.Ordering.{match_ordering, ordering_then}
use Rattle.std.specs.BTreeSet.{insert_key}
use Rattle.unit_report.specs.declared.fields.Field.{Field}
use Rattle.unit_report.specs.Fields.{field}

abbrev field_cmp : Field → Field → Ordering
field_cmp x y = ordering_then (nat_cmp x.place y.place) (nat_cmp x.size y.size)

same_field : (x y : Field) → field_cmp x y ≡ Equal → x ≡ y
same_field x y e =
    ap (λ (p : ℕ × ℕ). field p.0 p.1)
    (exact_pairs nat_cmp nat_cmp exact_unsigned exact_unsigned (x.place, x.size) (y.place, y.size) e)

or_comm : (a b : Bool) → (a || b) ≡ (b || a)
or_comm true true = refl
or_comm true false = refl
or_comm false true = refl
or_comm false false = refl

pub or_assoc : (a b c : Bool) → (a || (b || c)) ≡ ((a || b) || c)
or_assoc true b c = refl
or_assoc false b c = refl

or_same : (a b : Bool) → (a || b) ≡ ((a || b) || a)
or_same true b = refl
or_same false true = refl
or_same false false = refl

-- one of the fields passes as before, or the new one does
pub any_insert : (p : Field → Bool) (k : Field) (ks : List Field) → list_any p (insert_key field_cmp ks k) ≡ (list_any p ks || p k)
any_insert p k [] = or_comm (p k) false
any_insert p k (x ∷ xs) = go (field_cmp k x) refl (any_insert p k xs)
  where
    go : (o : Ordering) → field_cmp k x ≡ o → list_any p (insert_key field_cmp xs k) ≡ (list_any p xs || p k)
        → list_any p (match_ordering o (k ∷ x ∷ xs) (x ∷ xs) (x ∷ insert_key field_cmp xs k)) ≡ (list_any p (x ∷ xs) || p k)
    go Less e h = or_comm (p k) (list_any p (x ∷ xs))
    go Equal e h = or_same (p x) (list_any p xs) ∙ ap (λ b. list_any p (x ∷ xs) || b) (sym (ap p (same_field k x e)))
    go Greater e h = ap (λ b. p x || b) h ∙ or_assoc (p x) (list_any p xs) (p k)
