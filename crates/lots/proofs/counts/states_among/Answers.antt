use Rattle.std.proofs.Common.{arith, rules}
use Rattle.lots.proofs.CountLaws.{states-step, states-so_far}
use Rattle.lots.proofs.counts.states_among.Goals as goal

pub overflow_mul-states : goal.overflow_mul-states
overflow_mul-states c =
    let most = states-so_far c.args.counts.now c.loop-count.count-index c.loop-count.states (omega arith) c.requires.lots c.requires.categories
    c.loop-count.invariant in
    search rules

pub loop-count-preserved : goal.loop-count-preserved
loop-count-preserved c = states-step c.args.counts.now c.loop-count.count-index c.loop-count.states (omega arith) c.loop-count.invariant
