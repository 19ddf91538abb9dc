use Rattle.std.proofs.Common.{map}
use Rattle.placement_cert.specs.Parts.{row_value}
use Rattle.placement_check.specs.RowSums.{AreRowSums}
use Rattle.placement_check.proofs.sums.sums_over.Given as goal

abbrev pub invariant-loop-row : goal.invariant-loop-row
invariant-loop-row l = AreRowSums (map row_value l.rows) l.row-index l.sums
