use Rattle.std.proofs.Common.{length, arith, ◌∙◌}
use Rattle.nearest_point.proofs.SmallSystems.{AreSides, below_of, either_system}
use Rattle.nearest_point.proofs.exchange.factors.Goals as goal

pub shared_part-requires-clause-few : goal.shared_part-requires-clause-few
shared_part-requires-clause-few c =
    let six = c.requires.problem.few in
    let long = c.in_ok-lowered.ensures.long ∙ c.requires.problem.weighed.long in
    rw c.deref.ensures.value (omega arith)

pub shared_part-requires-clause-lowered : goal.shared_part-requires-clause-lowered
shared_part-requires-clause-lowered c =
    rw c.deref.ensures.value
    (below_of c.args.target.now c.args.weights.now c.args.rows.now c.in_ok-lowered.lowered.items c.requires.problem c.in_ok-lowered.ensures)

pub gram_matrix-requires-clause-few : goal.gram_matrix-requires-clause-few
gram_matrix-requires-clause-few c =
    let six = c.requires.problem.few in
    let long = c.in_ok-lowered.ensures.long ∙ c.requires.problem.weighed.long in
    let le = c.requires.few.1 in
    rw c.deref-2.ensures.value (omega arith, c.requires.few.0, omega arith)

pub gram_matrix-requires-clause-lowered : goal.gram_matrix-requires-clause-lowered
gram_matrix-requires-clause-lowered c =
    rw c.deref-2.ensures.value
    (below_of c.args.target.now c.args.weights.now c.args.rows.now c.in_ok-lowered.lowered.items c.requires.problem c.in_ok-lowered.ensures)

pub right_sides-requires-clause-few : goal.right_sides-requires-clause-few
right_sides-requires-clause-few c =
    let long = rw c.deref.ensures.value at c.in_ok-shared.ensures.long in
    rw c.deref-3.ensures.value (c.requires.problem.few, long ∙ c.in_ok-lowered.ensures.long ∙ c.requires.problem.weighed.long)

pub solve-requires-clause-small : goal.solve-requires-clause-small
solve-requires-clause-small c =
    let sides : AreSides c.args.target.now c.args.rows.now c.in_ok-lowered.lowered.items (length c.args.forced.now) c.in_ok-matrix.matrix
    c.items.result.now = record {
      long = c.in_ok-matrix.ensures.long;
      few = c.requires.few.1;
      width = c.in_ok-lowered.ensures.long ∙ c.requires.problem.weighed.long;
      entries = rw c.deref-2.ensures.value at c.in_ok-matrix.ensures.small;
      fars = rw c.items.ensures c.in_ok-right.ensures.small_far;
      nears = rw c.items.ensures c.in_ok-right.ensures.small_near;
    } in
    either_system c.args.target.now c.args.weights.now c.args.rows.now c.in_ok-lowered.lowered.items (length c.args.forced.now) c.in_ok-matrix.matrix
    c.items.result.now c.requires.problem c.in_ok-lowered.ensures sides
