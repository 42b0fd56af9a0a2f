-- The bytes collected are those of the pairs, and those are what the digits stand for.
use Rattle.std.proofs.Common.{◌≡◌, rules, IfOk, map}
use Rattle.hex_digits.proofs.Pairs.{decoded_pairs, byte_of}
use Rattle.hex_digits.proofs.decode.Goals as goal

pub returns : goal.returns
returns c =
    let bytes : IfOk c.collect.result (λ v. v.items ≡ map byte_of c.as_chunks.result.0.now) = search rules in
    rw (← decoded_pairs c.args.digits.now, ← c.as_chunks.ensures.front) bytes
