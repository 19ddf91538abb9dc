use Rattle.slot_places.specs.Steps.{AreBests}
use Rattle.slot_places.proofs.bests.all_bests.Given as goal

abbrev pub invariant-loop-set : goal.invariant-loop-set
invariant-loop-set l = AreBests l.search l.set l.bests.items
