use Rattle.std.proofs.Common.{arith, rules}
use Rattle.std.proofs.lemmas.Int.{to_z-of_z}
use Rattle.value_table.proofs.Needless.{idle-sign}
use mir.Val.{SFits}
use mir.Syntax.{w128}
use Rattle.value_table.proofs.lines.add_idle.Goals as goal

pub narrowed-requires-clause-size : goal.narrowed-requires-clause-size
narrowed-requires-clause-size g c =
    let idle_fits : SFits w128 c.idle-idle.result = search rules in
    rw (to_z-of_z w128 c.idle-idle.result idle_fits, c.idle-idle.ensures.worth) (c.requires.range.worths 0 (omega arith))

pub narrowed-requires-clause-sign : goal.narrowed-requires-clause-sign
narrowed-requires-clause-sign g c =
    let idle_fits : SFits w128 c.idle-idle.result = search rules in
    rw (to_z-of_z w128 c.idle-idle.result idle_fits, c.idle-idle.ensures.worth) (idle-sign c.args.lowered.now c.args.j)

pub add_to_each-requires-clause-amount : goal.add_to_each-requires-clause-amount
add_to_each-requires-clause-amount g c =
    let idle_fits : SFits w128 c.idle-idle.result = search rules in
    rw (c.narrowed.ensures, to_z-of_z w128 c.idle-idle.result idle_fits, c.idle-idle.ensures.worth) (c.requires.range.worths 0 (omega arith))

pub add_to_each-requires-clause-sizes : goal.add_to_each-requires-clause-sizes
add_to_each-requires-clause-sizes g c = c.requires.range.numbers
