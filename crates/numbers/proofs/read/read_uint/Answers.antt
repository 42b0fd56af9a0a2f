use Rattle.std.proofs.Common.{◌-◌, length, take, ◌∙◌, arith, length-take, rules}
use Rattle.readers.specs.Reading.{Meaning}
use Rattle.numbers.proofs.Uint.{uint_read, copied_is, Copied, zeros}
use Rattle.numbers.proofs.read.read_uint.Goals as goal
use Rattle.numbers.proofs.read.read_uint.Goals.{then-eq, else-eq}

pub returns : goal.returns
returns g c =
    let a = c.in_ok-read_slice.ensures in
    let m : Meaning = g.R.Reader.means c.args.reader.now in
    let after : Meaning = g.R.Reader.means c.read_slice.new.self in
    let held = c.read_slice.new.buf in
    let d : Copied c.args.n m after held =
    copied_is c.args.n (length (take (c.args.n - 0) zeros)) m after held (length-take (c.args.n - 0) zeros ∙ omega arith) a.answers a.leaves
    in
    elim c.if-eq.branch [
      | then-eq w ↦ uint_read c.args.n c.from_le_bytes.result m after held w.reverse.new.self c.if-eq.bytes (omega arith) d (search rules) w.bytes-is c.from_le_bytes.ensures
      | else-eq w ↦ uint_read c.args.n c.from_le_bytes.result m after held held c.if-eq.bytes (omega arith) d (search rules) w.bytes-is c.from_le_bytes.ensures
    ]
