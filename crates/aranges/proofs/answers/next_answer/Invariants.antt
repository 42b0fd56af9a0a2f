use Rattle.std.proofs.Common.{◌≡◌, ◌+◌, ◌≤◌, length}
use Rattle.aranges.specs.Sets.{Header}
use Rattle.aranges.specs.Answers.{answers_left}
use Rattle.aranges.proofs.Draws.{left}
use Rattle.aranges.proofs.answers.next_answer.Given as goal

-- what is left gives what the whole gave, and each tuple took a byte
abbrev pub invariant-loop-outcome : goal.invariant-loop-outcome
invariant-loop-outcome g l =
    ((h : Header)
    → answers_left h l.initial.number (left l.address_size (g.R.Reader.means l.initial.input)) ≡ answers_left h l.number (left l.address_size (g.R.Reader.means l.input)))
    × (l.number + length (g.R.Reader.means l.input).rest ≤ l.initial.number + length (g.R.Reader.means l.initial.input).rest)
    × (length (g.R.Reader.means l.input).rest ≤ length (g.R.Reader.means l.initial.input).rest)

abbrev pub decreases-loop-outcome : goal.decreases-loop-outcome
decreases-loop-outcome g l = length (g.R.Reader.means l.input).rest
