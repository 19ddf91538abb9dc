use Rattle.std.proofs.Common.{ℕ, ◌-◌, ◌≤◌, List, length}
use Rattle.log_file.proofs.ReadSoFar.{IsReadTo, Left}
use Rattle.log_file.proofs.read.read_records.Given as goal

abbrev pub invariant-loop-row : goal.invariant-loop-row
invariant-loop-row l =
    (length l.events ≤ 100000) × ((rows : List (List (List ℕ))) → Left l.fn.reader rows → IsReadTo l.award rows l.reader l.events)

abbrev pub decreases-loop-row : goal.decreases-loop-row
decreases-loop-row l = 100000 - length l.events
