use Rattle.std.proofs.Common.{◌≡◌, ◌<◌, drop}
use Rattle.auction_model.specs.Package.{is_within}
use Rattle.auction_model.specs.Place.{states_of, left_at}
use Rattle.lots.proofs.places.leaves_enough.Given as goal

abbrev pub invariant-loop-i : goal.invariant-loop-i
invariant-loop-i l = record {
  weight : l.weight ≡ states_of (drop l.i l.supply);
  below : l.rest < l.weight;
  rest : is_within (drop l.i l.counts) (left_at (drop l.i l.supply) l.rest) ≡ is_within l.counts (left_at l.supply l.place);
}
