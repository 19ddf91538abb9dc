-- The sum of the packages so far, each count of which is at most 40 for each package.
use Rattle.std.proofs.Common.{◌≡◌, ◌-◌, ◌*◌, ◌≤◌, [], length, map}
use Rattle.std.specs.Prelude.{All, slice_index_or}
use Rattle.auction_rules.specs.Rounds.{sum_of}
use Rattle.clock_stage.proofs.demand.demand_of.Given as goal

abbrev pub invariant-loop-package : goal.invariant-loop-package
invariant-loop-package l = record {
  sum : l.demand.items ≡ sum_of (map (λ n. 0) l.supply) (λ j. slice_index_or l.held (j - 1) []) l.package-index;
  most : All (λ n. n ≤ 40 * l.package-index) l.demand.items;
  count : length l.demand.items ≡ length l.supply;
}
