use Rattle.std.proofs.Common.{◌≡◌, ◌+◌, ◌*◌, drop}
use Rattle.auction_model.specs.Place.{states_of, place_of}
use Rattle.lots.proofs.places.place_among.Given as goal

abbrev pub invariant-loop-i : goal.invariant-loop-i
invariant-loop-i l = l.place * states_of (drop l.i l.supply) + place_of (drop l.i l.supply) (drop l.i l.counts) ≡ place_of l.supply l.counts
