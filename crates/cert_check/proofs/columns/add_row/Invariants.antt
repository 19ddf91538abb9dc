use Rattle.std.proofs.Common.{ℕ, pos}
use Rattle.std.specs.Prelude.{if◌then◌else◌}
use Rattle.cert_grammar.specs.Certificate.{is_member}
use Rattle.cert_check.proofs.Written.{AreAdded}
use Rattle.cert_check.proofs.columns.add_row.Given as goal

abbrev pub invariant-loop-k : goal.invariant-loop-k
invariant-loop-k l = AreAdded (λ (j : ℕ). if is_member l.members j then l.multiplier else pos 0) l.initial.sums l.sums l.k
