use Rattle.std.proofs.Common.{ℕ, map}
use Rattle.cert_grammar.specs.Certificate.{row_of}
use Rattle.cert_text.specs.Parts.{row_value}
use Rattle.cert_check.specs.Multipliers.{multiplier_of}
use Rattle.cert_check.proofs.Written.{AreWritten}
use Rattle.cert_check.proofs.whole.columns.put_multipliers.Given as goal

abbrev pub invariant-loop-r : goal.invariant-loop-r
invariant-loop-r l = AreWritten (λ (r : ℕ). multiplier_of l.which (row_of (map row_value l.rows) r)) l.numbers l.r
