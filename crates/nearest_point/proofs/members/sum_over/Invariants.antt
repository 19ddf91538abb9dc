use Rattle.std.proofs.Common.{◌≡◌, ◌*◌, ◌^◌, ◌*ℤ◌, ◌≤◌, unsigned_abs}
use Rattle.far_num.specs.Members.{holds}
use Rattle.wide_num.specs.Sums.{nth, total}
use Rattle.nearest_point.proofs.members.sum_over.Given as goal

abbrev pub invariant-loop-j : goal.invariant-loop-j
invariant-loop-j l = record {
  value : l.sum ≡ total l.j (λ j. holds l.members j *ℤ nth l.list j);
  small : unsigned_abs l.sum ≤ l.j * 2 ^ 113;
}
