use Rattle.std.proofs.Common.{◌≡◌, ◌≤◌, ◌*◌, ◌^◌, map, unsigned_abs}
use Rattle.cert_soundness.specs.Tests.{sum_holding}
use Rattle.cert_text.specs.Parts.{row_value}
use Rattle.cert_check.specs.Multipliers.{multiplier_of}
use Rattle.cert_check.proofs.whole.columns.sum_of.Given as goal

abbrev pub invariant-loop-row : goal.invariant-loop-row
invariant-loop-row l = record {
  sum : l.sum ≡ sum_holding (map row_value l.rows) l.j (multiplier_of l.which) l.row-index;
  size : unsigned_abs l.sum ≤ l.row-index * 2 ^ 120;
}
