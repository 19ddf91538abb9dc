use Rattle.std.proofs.Common.{◌<◌, get_or, take, sym, ◌∙◌, arith, rules}
use Rattle.std.proofs.lemmas.List.{take_more_set}
use Rattle.std.proofs.lemmas.Nat.{mod_below}
use Rattle.lots.proofs.Steps.{weight-positive, weight-step, count-small, made-step}
use Rattle.lots.proofs.places.counts_at.Goals as goal

pub overflow_cast-counts : goal.overflow_cast-counts
overflow_cast-counts c =
    let small : get_or c.args.supply.now c.loop-i.i 0 < 65536 = search rules in
    let r = count-small c.args.supply.now c.loop-i.i c.loop-i.weight c.loop-i.rest (omega arith) c.loop-i.invariant.weight c.loop-i.invariant.below small in
    search rules

pub nonzero_rem-rest : goal.nonzero_rem-rest
nonzero_rem-rest c = weight-positive c.args.supply.now c.loop-i.i c.loop-i.weight (omega arith) c.loop-i.invariant.weight

pub loop-i-preserved : goal.loop-i-preserved
loop-i-preserved c = record {
  weight = weight-step c.args.supply.now c.loop-i.i c.loop-i.weight (omega arith) c.loop-i.invariant.weight;
  below = mod_below _ _ (weight-positive c.args.supply.now c.loop-i.i c.loop-i.weight (omega arith) c.loop-i.invariant.weight);
  room = search rules;
  made = rw (take_more_set c.loop-i.counts c.loop-i.i _ (omega arith)) (sym (made-step c.args.supply.now (take c.loop-i.i c.loop-i.counts) c.loop-i.i
      c.loop-i.weight c.loop-i.rest (omega arith) c.loop-i.invariant.weight) ∙ c.loop-i.invariant.made);
}
