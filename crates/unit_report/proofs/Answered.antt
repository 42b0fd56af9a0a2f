-- The report, from what its parts come to.
use Rattle.std.proofs.Common.{◌≡◌, ℕ, Bool, true, Option, Some, None, map, zip, length, option_map, slice_get, List, [], ◌∷◌, ◌++◌, Ok, Err, Result, refl, ap, ◌∙◌}
use Rattle.std.specs.List.{count_by}
use Rattle.lookup.specs.Lookups.{Looked}
use Rattle.unit_report.specs.declared.refusal.Refusal.{Refusal}
use Rattle.unit_report.specs.declared.report.Status.TheVariants.{Complete, Failed}
use Rattle.unit_report.specs.Images.{Image, items_of, answers_at}
use Rattle.unit_report.specs.ImageLinks.{Refused}
use Rattle.unit_report.specs.Lines.{oddity_line, survey_line, total_line}
use Rattle.unit_report.specs.Reports.{report, head_lines, oddity_lines, is_found, answer_lines, answers_text, halting_oddity, report_by, report_in}
use Rattle.elf.specs.Results.{result_then}
use Rattle.unit_report.specs.Surveys.{Oddity, Survey, survey_of}

-- the first of a list that a function was mapped over
pub first_map : {A B : Type 0} (f : A → B) (xs : List A) → slice_get (map f xs) 0 ≡ option_map f (slice_get xs 0)
first_map f [] = refl
first_map f (x ∷ xs) = refl

-- the answers' part, from the answers ls
module _ (i : Image) (xs : List ℕ) (ls : List Looked) (same : ls ≡ answers_at i xs) where
  by_answers : (r : Result (List ℕ) Refusal) → r ≡ answer_lines i (zip xs ls)
      → result_then r (λ ts. Ok (ts ++ total_line (length xs) (count_by is_found ls))) ≡ answers_text i xs
  by_answers r e =
      ap (λ (q : Result (List ℕ) Refusal). result_then q (λ ts. Ok (ts ++ total_line (length xs) (count_by is_found ls)))) e
      ∙ ap (λ (ms : List Looked). result_then (answer_lines i (zip xs ms)) (λ ts. Ok (ts ++ total_line (length xs) (count_by is_found ms)))) same

  pub answered : (t : List ℕ) (n : ℕ) → Ok t ≡ answer_lines i (zip xs ls) → n ≡ count_by is_found ls → Ok (t ++ total_line (length xs) n) ≡ answers_text i xs
  answered t n e q = ap (λ (k : ℕ). Ok (t ++ total_line (length xs) k)) q ∙ by_answers (Ok t) e

  pub unanswered : (e : Refusal) → Refused e (answer_lines i (zip xs ls)) → Refused e (answers_text i xs)
  unanswered e h = λ k. by_answers (Err e) (h k)

-- the whole, from the survey s and the oddity o at which it halts
module _ (i : Image) (xs : List ℕ) (strict : Bool) (s : Survey) (same : s ≡ survey_of (items_of i)) where
  by_oddity : (o : Option Oddity) → o ≡ halting_oddity strict s → report_by i s xs o ≡ report_in strict xs i
  by_oddity o e = ap (λ (x : Option Oddity). report_by i s xs x) e ∙ ap (λ (t : Survey). report_by i t xs (halting_oddity strict t)) same

  pub halted : (o : Oddity) → Some o ≡ halting_oddity strict s → Ok (report Failed (head_lines i ++ oddity_line true o)) ≡ report_in strict xs i
  halted o e = by_oddity (Some o) e

  pub completed : (t : List ℕ) → None ≡ halting_oddity strict s → Ok t ≡ answers_text i xs
      → Ok (report Complete (head_lines i ++ (oddity_lines s.oddities ++ (survey_line s ++ t)))) ≡ report_in strict xs i
  completed t e q =
      ap (λ (r : Result (List ℕ) Refusal). result_then r (λ ts. Ok (report Complete (head_lines i ++ (oddity_lines s.oddities ++ (survey_line s ++ ts)))))) q
      ∙ by_oddity None e

  pub incomplete : (e : Refusal) → None ≡ halting_oddity strict s → Refused e (answers_text i xs) → Refused e (report_in strict xs i)
  incomplete e n h = λ k.
      ap (λ (r : Result (List ℕ) Refusal). result_then r (λ ts. Ok (report Complete (head_lines i ++ (oddity_lines s.oddities ++ (survey_line s ++ ts)))))) (h k)
      ∙ by_oddity None n
