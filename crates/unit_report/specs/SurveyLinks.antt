-- How the code's surveys stand for those of the definitions.
use Rattle.std.specs.Prelude.{◌≡◌, ◌+◌, ◌^◌, ◌<◌, Bool, [], ◌∷◌, ◌++◌, map, vec_items}
use Rattle.std.specs.Bool.{OnFalse}
use Rattle.readers.specs.Links.{fault_is}
use Rattle.readers.specs.Outcome.{Outcome, answer, fault}
use Rattle.aranges.specs.Answers.{Answer, Item, set, tuple, spoilt}
use Rattle.aranges.specs.Tuples.{Entry}
use Rattle.unit_report.specs.declared.survey.Oddity as oddity
use Rattle.unit_report.specs.declared.survey.Oddity.TheVariants.{Tuple, Header}
use Rattle.unit_report.specs.declared.survey.Survey as survey
use Rattle.unit_report.specs.Surveys.{Oddity, spoilt_tuple, spoilt_header, Survey}

abbrev pub oddity_is : oddity.Oddity → Oddity
oddity_is (Tuple p n e) = spoilt_tuple p n (fault_is e)
oddity_is (Header p e) = spoilt_header p (fault_is e)

abbrev pub survey_is : survey.Survey → Survey
survey_is s =
    record { sets = s.sets; ranges = s.ranges; oddities = map oddity_is (vec_items s.oddities) }

-- a survey with an item more
abbrev pub with_set : Survey → Survey
with_set s = record { sets = s.sets + 1; ranges = s.ranges; oddities = s.oddities }

abbrev pub with_range : Survey → Survey
with_range s = record { sets = s.sets; ranges = s.ranges + 1; oddities = s.oddities }

abbrev pub with_oddity : Survey → Oddity → Survey
with_oddity s o = record { sets = s.sets; ranges = s.ranges; oddities = s.oddities ++ o ∷ [] }

abbrev pub with_answer : Survey → Answer → Outcome Entry → Survey
with_answer s a (answer e) = with_range s
with_answer s a (fault f) = with_oddity s (spoilt_tuple a.set.place a.number f)

abbrev pub with_item : Survey → Item → Survey
with_item s (set h) = with_set s
with_item s (tuple a) = with_answer s a a.outcome
with_item s (spoilt p f) = with_oddity s (spoilt_header p f)

-- an item is noted, unless memory is short or a count is at its end
abbrev pub Notes : survey.Survey → Item → Bool → survey.Survey → Type 0
Notes before x stops after =
    OnFalse stops
    (before.sets + 1 < 2 ^ 64 → before.ranges + 1 < 2 ^ 64
    → survey_is after ≡ with_item (survey_is before) x)
