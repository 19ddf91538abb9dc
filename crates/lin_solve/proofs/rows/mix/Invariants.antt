use Rattle.std.proofs.Common.{◌≡◌, ℕ, ◌<◌, length, ◌-ℤ◌, ◌*ℤ◌}
use Rattle.wide_num.specs.Sums.{nth}
use Rattle.lin_solve.proofs.rows.mix.Given as goal

abbrev pub invariant-loop-i : goal.invariant-loop-i
invariant-loop-i l = record {
  long : length l.out ≡ l.i;
  is : (k : ℕ) → k < l.i → nth l.out k ≡ l.s *ℤ nth l.v k -ℤ l.t *ℤ nth l.w k;
}
