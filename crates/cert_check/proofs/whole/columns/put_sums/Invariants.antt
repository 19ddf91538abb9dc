use Rattle.std.proofs.Common.{ℕ, length, map}
use Rattle.cert_soundness.specs.Tests.{sum_holding}
use Rattle.cert_text.specs.Parts.{row_value}
use Rattle.cert_check.specs.Multipliers.{multiplier_of}
use Rattle.cert_check.proofs.Written.{AreWritten}
use Rattle.cert_check.proofs.whole.columns.put_sums.Given as goal

abbrev pub invariant-loop-k : goal.invariant-loop-k
invariant-loop-k l = AreWritten (λ (j : ℕ). sum_holding (map row_value l.rows) j (multiplier_of l.which) (length l.rows)) l.sums l.k
