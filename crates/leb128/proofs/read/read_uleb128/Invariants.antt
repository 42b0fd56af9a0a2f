use Rattle.std.proofs.Common.{◌≡◌, ◌*◌, ◌^◌, ◌<◌}
use Rattle.leb128.specs.Leb128.{unsigned_leb128}
use Rattle.leb128.proofs.Ahead.{left_past}
use Rattle.leb128.proofs.read.read_uleb128.Given as goal

abbrev pub invariant-loop-i : goal.invariant-loop-i
invariant-loop-i g l =
    (left_past l.i l.result (g.R.Reader.means l.fn.reader) ≡ unsigned_leb128 (g.R.Reader.means l.fn.reader)) × (l.result < 2 ^ (7 * l.i))
