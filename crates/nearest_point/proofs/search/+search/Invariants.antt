use Rattle.std.proofs.Common.{◌-◌, ◌+◌, ◌*◌, ◌≤◌, length}
use Rattle.nearest_point.specs.Found.{IsNear, HasParts}
use Rattle.nearest_point.proofs.search.+search.Given as goal

abbrev pub decreases-force : goal.decreases-force
decreases-force l = 2 * (length l.rows.now - l.k)

abbrev pub decreases-search_from : goal.decreases-search_from
decreases-search_from l = 2 * (length l.rows.now - l.from) + 1

abbrev pub invariant-search_from-loop-k : goal.invariant-search_from-loop-k
invariant-search_from-loop-k l = record {
  low : l.from ≤ l.k;
  high : l.k ≤ length l.rows;
  parts : HasParts l.target l.weights l.rows l.best;
  near : IsNear l.target l.weights l.rows l.forced l.k l.best;
}

abbrev pub decreases-search_from-loop-k : goal.decreases-search_from-loop-k
decreases-search_from-loop-k l = l.k - l.from
