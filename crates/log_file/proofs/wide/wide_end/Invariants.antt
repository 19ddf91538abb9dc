use Rattle.std.proofs.Common.{◌-◌, ◌≤◌, ◌<◌, length, take}
use Rattle.log_file.proofs.WideLaws.{IsScanned}
use Rattle.log_file.proofs.wide.wide_end.Given as goal

abbrev pub invariant-loop-at : goal.invariant-loop-at
invariant-loop-at l = (l.at ≤ length l.text) × (l.ended < 4) × IsScanned (take l.at l.text) l.place l.ended

abbrev pub decreases-loop-at : goal.decreases-loop-at
decreases-loop-at l = length l.text - l.at
