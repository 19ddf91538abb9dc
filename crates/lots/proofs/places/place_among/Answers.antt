use Rattle.std.proofs.Common.{sym, ◌∙◌, arith, rules}
use Rattle.lots.proofs.Steps.{place-step, place-small, place-in_range}
use Rattle.lots.proofs.places.place_among.Goals as goal

pub overflow_mul-place : goal.overflow_mul-place
overflow_mul-place c =
    let small = place-small c.args.supply.now c.args.counts.now c.loop-i.i c.loop-i.place c.requires.states c.requires.fits c.loop-i.invariant in
    search rules

pub overflow_add-place-in-loop-i : goal.overflow_add-place-in-loop-i
overflow_add-place-in-loop-i c =
    let small = place-small c.args.supply.now c.args.counts.now c.loop-i.i c.loop-i.place c.requires.states c.requires.fits c.loop-i.invariant in
    search rules

pub returns-clause-below : goal.returns-clause-below
returns-clause-below c = place-in_range c.args.supply.now c.args.counts.now c.loop-i.i c.loop-i.place c.requires.fits c.loop-i.invariant

pub loop-i-preserved : goal.loop-i-preserved
loop-i-preserved c =
    sym (place-step c.args.supply.now c.args.counts.now c.loop-i.i c.loop-i.place (omega arith) c.requires.categories) ∙ c.loop-i.invariant
