-- What the loop has written so far.
use Rattle.std.proofs.Common.{◌≡◌, take, string_bytes}
use Rattle.hex_digits.specs.Hex.{hex_of}
use Rattle.hex_digits.proofs.encode.Given as goal

-- the digits so far are those of the bytes so far
abbrev pub invariant-loop-byte : goal.invariant-loop-byte
invariant-loop-byte l = string_bytes l.text ≡ hex_of (take l.byte-index l.bytes)
