use Rattle.std.proofs.Common.{◌≡◌, length}
use Rattle.leb128.specs.Leb128.{leb128_skip}
use Rattle.leb128.proofs.read.skip_leb128.Given as goal

abbrev pub invariant-loop-byte : goal.invariant-loop-byte
invariant-loop-byte g l = leb128_skip (g.R.Reader.means l.reader) ≡ leb128_skip (g.R.Reader.means l.initial.reader)

abbrev pub decreases-loop-byte : goal.decreases-loop-byte
decreases-loop-byte g l = length (g.R.Reader.means l.reader).rest
