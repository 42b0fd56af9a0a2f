use Rattle.std.proofs.Common.{◌≡◌, map, drop, string_bytes}
use Rattle.unit_report.specs.Arguments.{purpose_of, no_settings}
use Rattle.unit_report.specs.ArgumentLinks.{settings_is}
use Rattle.unit_report.proofs.arguments.Command.parse.Given as goal

-- the words left make of the settings so far what all of them make of none
abbrev pub invariant-loop-word : goal.invariant-loop-word
invariant-loop-word l =
    purpose_of (settings_is l.settings) (map string_bytes (drop l.word-index l.words))
    ≡ purpose_of no_settings (map string_bytes l.words)
