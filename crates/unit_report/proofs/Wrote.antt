-- Lines that are written one after another.
use Rattle.std.proofs.Common.{◌≡◌, ℕ, List, [], ◌∷◌, ◌++◌, map, zip, Ok, Result, ◌⊎◌, inl, inr, sym, ap, ◌∙◌, append-nil}
use Rattle.lookup.specs.Lookups.{Looked}
use Rattle.unit_report.specs.declared.refusal.Refusal.{Refusal}
use Rattle.unit_report.specs.Images.{Image}
use Rattle.unit_report.specs.Reports.{answer_lines}
use Rattle.elf.specs.Results.{result_then}

-- a part of a whole was written: what is left goes on from it
pub record Written (whole rest : Result (List ℕ) Refusal) (before after : List ℕ) : Type 0 where
  pub text : List ℕ
  pub added : after ≡ before ++ text
  pub onward : whole ≡ result_then rest (λ ts. Ok (text ++ ts))

-- where either list is at its end, the whole was written
pub written_all : {A : Type 0} (i : Image) (whole : Result (List ℕ) Refusal) (f : A → Looked) (xs : List ℕ) (ys : List A) (before after : List ℕ)
    → (xs ≡ []) ⊎ (ys ≡ []) → (so : Written whole (answer_lines i (zip xs (map f ys))) before after) → Ok so.text ≡ whole
written_all i whole f [] ys before after e so = sym (so.onward ∙ ap (λ (x : List ℕ). Ok x) (append-nil so.text))
written_all i whole f (x ∷ xs) [] before after e so = sym (so.onward ∙ ap (λ (x : List ℕ). Ok x) (append-nil so.text))
written_all i whole f (x ∷ xs) (y ∷ ys) before after (inl e) so = cc
written_all i whole f (x ∷ xs) (y ∷ ys) before after (inr e) so = cc
