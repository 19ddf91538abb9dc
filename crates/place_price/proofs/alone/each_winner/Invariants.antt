use Rattle.std.proofs.Common.{◌≡◌, take, map}
use Rattle.std.specs.List.{AllByRecursion}
use Rattle.choices.specs.declared.chooser.Single.{Single}
use Rattle.choices.specs.Singles.{IsSingle, winners_after}
use Rattle.place_price.specs.PlacedParts.{ArePartsOf}
use Rattle.slot_places.specs.Board.{market_of_slots}
use Rattle.place_price.proofs.alone.each_winner.Given as goal

abbrev pub invariant-loop-k : goal.invariant-loop-k
invariant-loop-k l = record {
  winners : map (λ (s : Single). s.winner) l.alone.singles.items ≡ winners_after 0 (take l.k l.chooser.winners);
  each : AllByRecursion (IsSingle (market_of_slots l.chooser.slots.now) l.chooser.winners) l.alone.singles.items;
  parts : ArePartsOf l.chooser.slots.now l.alone.singles.items l.alone.parts;
}
