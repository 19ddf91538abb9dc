use Rattle.std.proofs.Common.{sym, ◌∙◌, arith}
use Rattle.std.proofs.lemmas.Nat.{mod_below}
use Rattle.lots.proofs.Steps.{weight-positive, weight-step, within-fails, within-goes_on}
use Rattle.lots.proofs.places.leaves_enough.Goals as goal

pub returns-then-rest-weight : goal.returns-then-rest-weight
returns-then-rest-weight c =
    sym (within-fails c.args.supply.now c.args.counts.now c.loop-i.i c.loop-i.weight c.loop-i.rest (omega arith) c.requires.categories
    c.loop-i.invariant.weight (omega arith)) ∙ c.loop-i.invariant.rest

pub loop-i-preserved : goal.loop-i-preserved
loop-i-preserved c = record {
  weight = weight-step c.args.supply.now c.loop-i.i c.loop-i.weight (omega arith) c.loop-i.invariant.weight;
  below = mod_below _ _ (weight-positive c.args.supply.now c.loop-i.i c.loop-i.weight (omega arith) c.loop-i.invariant.weight);
  rest = sym (within-goes_on c.args.supply.now c.args.counts.now c.loop-i.i c.loop-i.weight c.loop-i.rest
      (omega arith) c.requires.categories c.loop-i.invariant.weight (omega arith)) ∙ c.loop-i.invariant.rest;
}
