use Rattle.std.proofs.Common.{◌≡◌, ◌++◌, map, drop, string_bytes}
use Rattle.unit_report.specs.Lines.{shown_byte}
use Rattle.unit_report.proofs.lines.write_shown.Given as goal

-- what is written, and then the bytes left as they are shown, is what all of them make
abbrev pub invariant-loop-byte : goal.invariant-loop-byte
invariant-loop-byte l =
    string_bytes l.out ++ map shown_byte (drop l.byte-index l.name) ≡ string_bytes l.initial.out ++ map shown_byte l.name
