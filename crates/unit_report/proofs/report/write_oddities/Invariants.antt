use Rattle.std.proofs.Common.{◌≡◌, ◌++◌, map, drop, string_bytes}
use Rattle.unit_report.specs.Reports.{oddity_lines}
use Rattle.unit_report.specs.SurveyLinks.{oddity_is}
use Rattle.unit_report.proofs.report.write_oddities.Given as goal

-- what is written, and then the lines of the oddities left, is what all of them make
abbrev pub invariant-loop-oddity : goal.invariant-loop-oddity
invariant-loop-oddity l =
    string_bytes l.out ++ oddity_lines (map oddity_is (drop l.oddity-index l.oddity-items))
    ≡ string_bytes l.initial.out ++ oddity_lines (map oddity_is l.oddity-items)
