use Rattle.std.proofs.Common.{◌≡◌, ◌++◌, drop}
use Rattle.auction_model.specs.Place.{states_of, widths_of}
use Rattle.lots.proofs.places.widths_among.Given as goal

abbrev pub invariant-loop-i : goal.invariant-loop-i
invariant-loop-i l = record {
  width : l.width ≡ states_of (drop l.i l.supply);
  made : l.widths.items ++ widths_of (drop l.i l.supply) ≡ widths_of l.supply;
}
