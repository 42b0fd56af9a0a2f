-- The loop over the headers.
use Rattle.std.proofs.Common.{◌≡◌, ◌-◌, List, length}
use Rattle.mallethill.specs.declared.header.SetHeader.{SetHeader}
use Rattle.mallethill.specs.Told.{buffer_with}
use Rattle.mallethill.specs.Headers.{headers_from}
use Rattle.mallethill.proofs.Rows.{behind}
use Rattle.mallethill.proofs.header.read_headers.Given as goal

-- some headers stand at the buffer's front, and those of the sets from `next` on stand behind them
abbrev pub invariant-loop-count : goal.invariant-loop-count
invariant-loop-count l =
    (done : List SetHeader)
    × (length done ≡ l.count)
    × (l.headers ≡ buffer_with l.initial.headers done)
    × (headers_from l.initial.section l.initial.big_endian (length l.initial.headers) l.initial.offset ≡ behind done (headers_from l.initial.section l.initial.big_endian (length l.initial.headers - l.count) l.next))

-- the room that is left
abbrev pub decreases-loop-count : goal.decreases-loop-count
decreases-loop-count l = length l.initial.headers - l.count
