-- The whole law, of the answers to a list of calls.
use Rattle.std.proofs.Common.{ℕ, List, []}
use Rattle.readers.specs.Reading.{Meaning}
use Rattle.walk.specs.State.{open_walk}
use Rattle.histories.specs.Runs.{fault_behind}
use Rattle.histories.specs.Law.{Call, History}
use Rattle.histories.specs.Owed.{Owed}
use Rattle.histories.proofs.Longest.{stop_of, longest_from}
use Rattle.histories.proofs.Replays.{replay, lawful}
use Rattle.histories.proofs.Spoilt.{over, apart}
use Rattle.histories.proofs.Agree.{only}
use Rattle.histories.proofs.RowsRead.{in_rows}

pub owed : (limit : ℕ) (m : Meaning) (cs : List Call) → Owed limit m (replay limit (open_walk m) cs)
owed limit m cs =
    let s = stop_of limit m in
    let g = longest_from limit m s.sets s.run s.bad in
    let h : History limit m (replay limit (open_walk m) cs) = record { sets = s.sets; longest = g; lawful = lawful limit m s.sets cs g } in
    record {
      history = h;
      in_rows = in_rows s.sets (fault_behind limit m s.sets) (replay limit (open_walk m) cs) h.lawful;
      apart = apart limit m (replay limit (open_walk m) cs) h;
      only = λ es2 x c. only s.sets (fault_behind limit m s.sets) [] (replay limit (open_walk m) cs) es2 h.lawful (over limit m s.sets es2 g x) c;
    }
