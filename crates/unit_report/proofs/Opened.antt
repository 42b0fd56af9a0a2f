-- An image whose records were sorted, and checked.
use Rattle.std.proofs.Common.{◌≡◌, ℕ, ◌^◌, List, length, Ok, ap, ◌∙◌}
use Rattle.readers.specs.Reading.{Meaning}
use Rattle.aranges.specs.Answers.{items_in}
use Rattle.relocate.specs.Relocating.{record_at}
use Rattle.elf.specs.declared.section.Section.{Section}
use Rattle.elf.specs.Files.{File}
use Rattle.elf_relocations.specs.declared.record.Applied.{Applied}
use Rattle.unit_report.specs.declared.refusal.Refusal.{Refusal}
use Rattle.unit_report.specs.Fields.{fields_check}
use Rattle.unit_report.specs.Images.{Image, image_with, checked_image, aranges_of}
use Rattle.unit_report.specs.ImageLinks.{Refused}
use Rattle.elf.specs.Results.{result_then}

-- records that are found alike make one image
pub same_image : (f : File) (s : Section) (bytes : List ℕ) (xs ys : List Applied)
    → record_at (λ a. a.relocation) xs ≡ record_at (λ a. a.relocation) ys → length xs ≡ length ys → image_with f s bytes xs ≡ image_with f s bytes ys
same_image f s bytes xs ys p q = λ i. record { file = f; section = s; bytes = bytes; applied_at = p i; places = q i }

module _ (i j : Image) (m : Meaning) (rs : List Applied) (same : i ≡ j) (reads : m ≡ aranges_of i) where
  checks : fields_check (items_in (2 ^ 64) m) rs ≡ fields_check (items_in (2 ^ 64) (aranges_of j)) rs
  checks = ap (λ n. fields_check (items_in (2 ^ 64) n) rs) (reads ∙ ap aranges_of same)

  pub checked : Ok tt ≡ fields_check (items_in (2 ^ 64) m) rs → Ok i ≡ checked_image j rs
  checked e = ap (λ x. Ok x) same ∙ ap (λ r. result_then r (λ _. Ok j)) (e ∙ checks)

  pub unchecked : (e : Refusal) → Refused e (fields_check (items_in (2 ^ 64) m) rs) → Refused e (checked_image j rs)
  unchecked e h = λ k. ap (λ r. result_then r (λ _. Ok j)) (h k ∙ checks)
