-- What a visit of a whole section left of fields and of a survey.
use Rattle.std.proofs.Common.{◌≡◌, ℕ, ◌+◌, ◌^◌, ◌<◌, ◌≤◌, Bool, true, false, ◌||◌, cond, List, [], ◌∷◌, ◌++◌, length, sym, refl, ap, ◌∙◌, arith, append-nil, append_assoc}
use Rattle.std.proofs.lemmas.List.Sums.{sum_by-cons}
use Rattle.std.specs.List.{count_by, filter_map}
use Rattle.readers.specs.Outcome.{Outcome, answer, fault}
use Rattle.aranges.specs.Answers.{Item, set, tuple, spoilt, Shown, end, goes_on, stops}
use Rattle.aranges.specs.Tuples.{Entry}
use Rattle.elf_relocations.specs.declared.record.Applied.{Applied}
use Rattle.unit_report.specs.declared.fields.Fields.{Fields}
use Rattle.unit_report.specs.declared.survey.Survey as code
use Rattle.unit_report.specs.Fields.{is_read_in, is_read}
use Rattle.unit_report.specs.FieldLinks.{is_known, Learns}
use Rattle.unit_report.specs.Surveys.{Oddity, Survey, is_set, is_range, oddity_of, survey_of}
use Rattle.unit_report.specs.SurveyLinks.{survey_is, with_item, with_answer, Notes}
use Rattle.unit_report.proofs.Sets.{or_assoc}

or_false : (b : Bool) → b ≡ (b || false)
or_false true = refl
or_false false = refl

pub known_after : {before after : Fields} {xs : List Item} {b : Bool} → Shown Learns before xs b after → b ≡ false
    → (r : Applied) → is_known after r ≡ (is_known before r || is_read xs r)
known_after {before = before} end e r = or_false (is_known before r)
known_after (goes_on {v = before} {w = next} {x = x} {xs = xs} learns shown) e r =
    known_after shown e r ∙ ap (λ b. b || is_read xs r) (learns r) ∙ sym (or_assoc (is_known before r) (is_read_in r x) (is_read xs r))
known_after (stops learns) e r = let f : true ≡ false = e in cc

-- a survey of some sets, ranges and oddities
abbrev pub survey_at : ℕ → ℕ → List Oddity → Survey
survey_at n k os = record { sets = n; ranges = k; oddities = os }

-- a survey, and the items that are left
abbrev surveyed_with : Survey → List Item → Survey
surveyed_with s xs = survey_at (s.sets + count_by is_set xs) (s.ranges + count_by is_range xs) (s.oddities ++ filter_map oddity_of xs)

survey_same : (a b c d : ℕ) (os ps : List Oddity) → a ≡ b → c ≡ d → os ≡ ps → survey_at a c os ≡ survey_at b d ps
survey_same a b c d os ps p q r = λ i. survey_at (p i) (q i) (r i)

module _ (s : Survey) (xs : List Item) where
  counts : (x : Item) → (with_item s x).sets ≡ s.sets + cond (is_set x) 1 0 → (with_item s x).ranges ≡ s.ranges + cond (is_range x) 1 0
      → (with_item s x).oddities ++ filter_map oddity_of xs ≡ s.oddities ++ filter_map oddity_of (x ∷ xs)
      → surveyed_with (with_item s x) xs ≡ surveyed_with s (x ∷ xs)
  counts x p q r =
      survey_same _ _ _ _ _ _ (omega (arith, p, sum_by-cons (λ y. cond (is_set y) 1 0) x xs)) (omega (arith, q, sum_by-cons (λ y. cond (is_range y) 1 0) x xs)) r

  item_more : (x : Item) → surveyed_with (with_item s x) xs ≡ surveyed_with s (x ∷ xs)
  item_more (set h) = counts (set h) refl (omega arith) refl
  item_more (tuple a) = go a.outcome
    where
      go : (o : Outcome Entry) → surveyed_with (with_answer s a o) xs ≡ surveyed_with s (tuple (record a { outcome = o }) ∷ xs)
      go (answer e) = counts (tuple (record a { outcome = answer e })) (omega arith) refl refl
      go (fault f) = counts (tuple (record a { outcome = fault f })) (omega arith) (omega arith) (append_assoc s.oddities _ _)
  item_more (spoilt p f) = counts (spoilt p f) (omega arith) (omega arith) (append_assoc s.oddities _ _)

few_more : (s : Survey) (x : Item) → ((with_item s x).sets ≤ s.sets + 1) × ((with_item s x).ranges ≤ s.ranges + 1)
few_more s (set h) = (omega arith, omega arith)
few_more s (tuple a) = go a.outcome
  where
    go : (o : Outcome Entry) → ((with_answer s a o).sets ≤ s.sets + 1) × ((with_answer s a o).ranges ≤ s.ranges + 1)
    go (answer e) = (omega arith, omega arith)
    go (fault f) = (omega arith, omega arith)
few_more s (spoilt p f) = (omega arith, omega arith)

surveyed_after : {before after : code.Survey} {xs : List Item} {b : Bool} → Shown Notes before xs b after → b ≡ false
    → before.sets + length xs < 2 ^ 64 → before.ranges + length xs < 2 ^ 64 → survey_is after ≡ surveyed_with (survey_is before) xs
surveyed_after {before = before} end e n k = survey_same _ _ _ _ _ _ (omega arith) (omega arith) (sym (append-nil (survey_is before).oddities))
surveyed_after (goes_on {v = before} {w = next} {x = x} {xs = xs} notes shown) e n k =
    let s = survey_is before in
    let noted : survey_is next ≡ with_item s x = notes (omega arith) (omega arith) in
    let few = few_more s x in
    let sets = ap (λ (t : Survey). t.sets) noted in
    let ranges = ap (λ (t : Survey). t.ranges) noted in
    surveyed_after shown e (omega (arith, few, sets)) (omega (arith, few, ranges)) ∙ ap (λ t. surveyed_with t xs) noted ∙ item_more s xs x
surveyed_after (stops notes) e n k = let f : true ≡ false = e in cc

-- from an empty survey, of no more items than fit
pub survey_after : {before after : code.Survey} {xs : List Item} → Shown Notes before xs false after → survey_is before ≡ survey_at 0 0 [] → length xs < 2 ^ 64
    → survey_is after ≡ survey_of xs
survey_after {before = before} {xs = xs} shown e few =
    let sets : before.sets ≡ 0 = ap (λ (t : Survey). t.sets) e in
    let ranges : before.ranges ≡ 0 = ap (λ (t : Survey). t.ranges) e in
    surveyed_after shown refl (omega arith) (omega arith) ∙ ap (λ t. surveyed_with t xs) e ∙ survey_same _ _ _ _ _ _ (omega arith) (omega arith) refl
