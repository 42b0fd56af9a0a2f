-- The loop over the numbers.
use Rattle.std.proofs.Common.{◌≡◌, ℕ, ◌-◌, List, length}
use Rattle.mallethill.specs.Told.{buffer_with}
use Rattle.mallethill.specs.Numbers.{row}
use Rattle.mallethill.proofs.Rows.{behind}
use Rattle.mallethill.proofs.uleb128.read_row.Given as goal

-- some numbers stand at the buffer's front, and what is left has the row behind them
abbrev pub invariant-loop-count : goal.invariant-loop-count
invariant-loop-count g l =
    (done : List ℕ)
    × (length done ≡ l.count)
    × (l.numbers ≡ buffer_with l.initial.numbers done)
    × (row (length l.initial.numbers) (g.R.Reader.means l.initial.reader) ≡ behind done (row (length l.initial.numbers - l.count) (g.R.Reader.means l.reader)))

-- the room that is left
abbrev pub decreases-loop-count : goal.decreases-loop-count
decreases-loop-count g l = length l.initial.numbers - l.count
