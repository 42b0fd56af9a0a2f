use Rattle.std.proofs.Common.{◌≡◌, ◌*◌, ◌^◌, ◌<◌, []}
use Rattle.leb128.specs.Leb128.{more, signed_leb128}
use Rattle.leb128.proofs.Spelling.{left}
use Rattle.leb128.proofs.Signed.{ends}
use Rattle.leb128.proofs.read.read_sleb128.Given as goal

abbrev pub invariant-loop-i : goal.invariant-loop-i
invariant-loop-i g l =
    (left more [] ends l.i l.result (g.R.Reader.means l.reader) ≡ signed_leb128 (g.R.Reader.means l.initial.reader))
    × (l.result < 2 ^ (7 * l.i))
