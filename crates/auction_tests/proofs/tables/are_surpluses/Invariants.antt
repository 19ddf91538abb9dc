use Rattle.std.proofs.Common.{◌≡◌, ◌<◌, ◌≤◌, ℕ, get_or, pos, unsigned_abs}
use Rattle.auction_tests.proofs.tables.are_surpluses.Given as goal

abbrev pub invariant-loop-k : goal.invariant-loop-k
invariant-loop-k l = record {
  small : (i : ℕ) → i < l.k → unsigned_abs (get_or l.surplus i (pos 0)) ≤ 1000000;
  losers : (i : ℕ) → i < l.k → get_or l.chooser.winners i 0 ≡ 0 → get_or l.surplus i (pos 0) ≡ pos 0;
}
