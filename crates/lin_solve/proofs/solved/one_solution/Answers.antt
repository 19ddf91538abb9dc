use Rattle.std.proofs.Common.{rules, FitsSigned}
use Rattle.std.specs.Int.{w128}
use Rattle.std.proofs.lemmas.Int.{to_z-of_z}
use Rattle.lin_solve.proofs.Assembly.{have_common, one_solution, small_answer}
use Rattle.lin_solve.proofs.solved.one_solution.Goals as goal

pub common_den-den-requires : goal.common_den-den-requires
common_den-den-requires c =
    rw c.deref.ensures.value
    (have_common c.args.lines.now c.args.fars.now c.args.nears.now c.in_ok-pivots.pivots.items c.requires.system c.requires.only c.in_ok-pivots.ensures.long
    c.in_ok-pivots.ensures.pivots)

pub values-requires-clause-common : goal.values-requires-clause-common
values-requires-clause-common c =
    rw c.deref-2.ensures.value
    (have_common c.args.lines.now c.args.fars.now c.args.nears.now c.in_ok-pivots.pivots.items c.requires.system c.requires.only c.in_ok-pivots.ensures.long
    c.in_ok-pivots.ensures.pivots)

pub returns-clause-answer : goal.returns-clause-answer
returns-clause-answer c =
    let d : FitsSigned w128 c.common_den-den.result = search rules in
    let cd = rw c.deref.ensures.value at c.common_den-den.ensures in
    let lv = rw c.deref-2.ensures.value at c.in_ok-values.ensures.long in
    let av = simp to_z-of_z at (rw c.deref-2.ensures.value at c.in_ok-values.ensures.values) in
    simp to_z-of_z
    (one_solution c.args.lines.now c.args.fars.now c.args.nears.now c.in_ok-pivots.pivots.items c.requires.system c.requires.only c.in_ok-pivots.ensures.long
    c.in_ok-pivots.ensures.pivots
    c.common_den-den.result c.in_ok-values.values cd lv av)

pub returns-clause-small : goal.returns-clause-small
returns-clause-small c = λ limit edge w.
    let d : FitsSigned w128 c.common_den-den.result = search rules in
    let cd = rw c.deref.ensures.value at c.common_den-den.ensures in
    let lv = rw c.deref-2.ensures.value at c.in_ok-values.ensures.long in
    let av = simp to_z-of_z at (rw c.deref-2.ensures.value at c.in_ok-values.ensures.values) in
    simp to_z-of_z
    (small_answer c.args.lines.now c.args.fars.now c.args.nears.now c.in_ok-pivots.pivots.items c.requires.system c.requires.only c.in_ok-pivots.ensures.long
    c.in_ok-pivots.ensures.pivots
    c.common_den-den.result c.in_ok-values.values cd lv av limit edge w)

pub all_pivots-requires-clause-system : goal.all_pivots-requires-clause-system
all_pivots-requires-clause-system c = search rules

pub all_pivots-requires-clause-only : goal.all_pivots-requires-clause-only
all_pivots-requires-clause-only c = search rules

pub values-requires-clause-den : goal.values-requires-clause-den
values-requires-clause-den c = search rules
