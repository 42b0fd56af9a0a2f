use Rattle.std.proofs.Common.{◌≡◌, drop}
use Rattle.unit_report.specs.Addresses.{number_from}
use Rattle.unit_report.proofs.address.parse_address.Given as goal

-- the digits left make of the number so far what all of them make of 0
abbrev pub invariant-loop-byte : goal.invariant-loop-byte
invariant-loop-byte l = number_from l.value (drop l.byte-index l.digits) ≡ number_from 0 l.digits
