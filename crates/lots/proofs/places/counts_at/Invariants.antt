use Rattle.std.proofs.Common.{◌≡◌, ◌<◌, ◌++◌, drop, take, length}
use Rattle.auction_model.specs.Place.{states_of, left_at}
use Rattle.lots.proofs.places.counts_at.Given as goal

abbrev pub invariant-loop-i : goal.invariant-loop-i
invariant-loop-i l = record {
  weight : l.weight ≡ states_of (drop l.i l.supply);
  below : l.rest < l.weight;
  room : length l.counts ≡ 6;
  made : take l.i l.counts ++ left_at (drop l.i l.supply) l.rest ≡ left_at l.supply l.place;
}
