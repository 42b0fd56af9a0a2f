-- One byte more writes its two digits.
use Rattle.std.proofs.Common.{string_bytes, arith}
use Rattle.hex_digits.proofs.Pairs.{encoded_more}
use Rattle.hex_digits.proofs.encode.Goals as goal

pub loop-byte-preserved : goal.loop-byte-preserved
loop-byte-preserved c =
    encoded_more c.args.bytes.now (string_bytes c.loop-byte.text) (string_bytes c.push.new.self) (string_bytes c.push-in-loop-byte.new.self)
    c.loop-byte.byte-index c.hex_digit.result c.hex_digit-in-loop-byte.result c.loop-byte-test.true (omega (arith, c.type_inv.bytes c.loop-byte.byte-index))
    c.hex_digit.ensures c.hex_digit-in-loop-byte.ensures c.in_ok-push.ensures.bytes c.in_ok-push-2.ensures.bytes c.loop-byte.invariant
