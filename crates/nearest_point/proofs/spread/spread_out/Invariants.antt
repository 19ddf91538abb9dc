use Rattle.std.proofs.Common.{◌≡◌, ℕ, ◌*◌, ◌^◌, ◌<◌, ◌≤◌, length, unsigned_abs}
use Rattle.wide_num.specs.Sums.{nth}
use Rattle.nearest_point.specs.Numbers.{place, spread}
use Rattle.nearest_point.proofs.spread.spread_out.Given as goal

abbrev pub invariant-loop-i : goal.invariant-loop-i
invariant-loop-i l = record {
  lengths : length l.list.items ≡ l.count;
  numbers : (q : ℕ) → q < l.count → nth l.list.items q ≡ spread l.i (place l.rows) (nth l.multipliers) q;
  small : (q : ℕ) → unsigned_abs (nth l.list.items q) ≤ l.i * 2 ^ 106;
}
