use Rattle.std.proofs.Common.{◌≡◌, ℕ, ◌<◌, ◌*◌, length, take, drop}
use Rattle.auction_model.specs.Place.{states_of}
use Rattle.table_check.specs.Growth.{Grows, RisesBy}
use Rattle.table_check.proofs.growth.+is_growing_narrow.Given as goal

abbrev pub decreases-is_growing_narrow : goal.decreases-is_growing_narrow
decreases-is_growing_narrow l = length l.supply.now

abbrev pub invariant-loop-block : goal.invariant-loop-block
invariant-loop-block l = record {
  width : l.width ≡ states_of (drop 1 l.supply);
  rises : RisesBy l.width l.line;
  blocks : (q : ℕ) → q < l.block → Grows (drop 1 l.supply) (take l.width (drop (q * l.width) l.line));
}
