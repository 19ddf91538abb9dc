use Rattle.std.proofs.Common.{◌≡◌, ◌*◌, drop}
use Rattle.auction_model.specs.Place.{states_of}
use Rattle.lots.proofs.counts.states_among.Given as goal

abbrev pub invariant-loop-count : goal.invariant-loop-count
invariant-loop-count l = l.states * states_of (drop l.count-index l.counts) ≡ states_of l.counts
