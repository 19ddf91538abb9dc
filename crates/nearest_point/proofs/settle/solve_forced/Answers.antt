use Rattle.std.proofs.Common.{◌≡◌, length, arith, rules, ap, ◌∙◌, List, to_z, of_z}
use Rattle.std.specs.Int.{w128}
use Rattle.far_num.specs.Pairs.{far_at, near_at}
use Rattle.far_num.specs.declared.Far.{Far}
use Rattle.nearest_point.specs.Found.{row_of}
use Rattle.nearest_point.specs.Problem.{weight_at}
use Rattle.nearest_point.specs.declared.settle.Multipliers.{Multipliers}
use Rattle.nearest_point.proofs.Settling.{den_back, independent_of, is_gram, multipliers_of, never}
use Rattle.nearest_point.proofs.SmallSystems.{AreSides, below_of, either_system, first_system}
use Rattle.nearest_point.proofs.Whole.{have_weights}
use Rattle.nearest_point.proofs.settle.solve_forced.Goals as goal

pub gram_matrix-requires-clause-few : goal.gram_matrix-requires-clause-few
gram_matrix-requires-clause-few c =
    let six = c.requires.problem.few in
    let long = c.requires.lowered.long ∙ c.requires.problem.weighed.long in
    let le = c.requires.few in
    (omega arith, search rules, omega arith)

pub gram_matrix-requires-clause-lowered : goal.gram_matrix-requires-clause-lowered
gram_matrix-requires-clause-lowered c = below_of c.args.target.now c.args.weights.now c.args.rows.now c.args.lowered.now c.requires.problem c.requires.lowered

pub right_sides-requires-clause-lowered : goal.right_sides-requires-clause-lowered
right_sides-requires-clause-lowered c = below_of c.args.target.now c.args.weights.now c.args.rows.now c.args.lowered.now c.requires.problem c.requires.lowered

sides : (c : goal.After-items) → AreSides c.args.target.now c.args.rows.now c.args.lowered.now (length c.args.forced.now) c.in_ok-matrix.matrix
    c.items.result.now
sides c = record {
  long = c.in_ok-matrix.ensures.long;
  few = c.requires.few;
  width = c.requires.lowered.long ∙ c.requires.problem.weighed.long;
  entries = c.in_ok-matrix.ensures.small;
  fars = rw c.items.ensures c.in_ok-right.ensures.small_far;
  nears = rw c.items.ensures c.in_ok-right.ensures.small_near;
}

pub solve-requires-clause-small : goal.solve-requires-clause-small
solve-requires-clause-small c =
    either_system c.args.target.now c.args.weights.now c.args.rows.now c.args.lowered.now (length c.args.forced.now) c.in_ok-matrix.matrix c.items.result.now
    c.requires.problem c.requires.lowered (sides c)

pub returns : goal.returns
returns c =
    let p = c.requires.problem in
    let low = c.requires.lowered in
    let len : length c.args.lowered.now ≡ length c.args.target.now = low.long ∙ p.weighed.long in
    λ ind. never (length c.args.target.now) (length c.args.forced.now) (row_of c.args.rows.now c.args.forced.now) (weight_at c.args.weights.now)
    (have_weights (length c.args.target.now) c.args.weights.now p.weighed)
    c.in_ok-matrix.matrix c.in-Dependent.combination (far_at c.items.result.now) (near_at c.items.result.now) c.in_ok-den.field-0
    (is_gram c.args.target.now c.args.weights.now c.args.rows.now c.args.forced.now c.args.lowered.now low len c.in_ok-matrix.matrix
    c.in_ok-matrix.ensures.long c.in_ok-matrix.ensures.entries)
    ind c.in_ok-den.ensures.answer c.in-Dependent.is

pub returns-in-One : goal.returns-in-One
returns-in-One c =
    let p = c.requires.problem in
    let low = c.requires.lowered in
    let len : length c.args.lowered.now ≡ length c.args.target.now = low.long ∙ p.weighed.long in
    let f : Multipliers = record { den = to_z w128 (of_z w128 c.in-One.den); first = c.in_ok-first-in-One.first; second = c.in_ok-second-in-One.second } in
    let right = c.items.result.now in
    let sides : AreSides c.args.target.now c.args.rows.now c.args.lowered.now (length c.args.forced.now) c.in_ok-matrix.matrix c.items.result.now = record {
      long = c.in_ok-matrix.ensures.long;
      few = c.requires.few;
      width = len;
      entries = c.in_ok-matrix.ensures.small;
      fars = rw c.items.ensures c.in_ok-right.ensures.small_far;
      nears = rw c.items.ensures c.in_ok-right.ensures.small_near;
    } in
    let values = c.in-One.values in
    let first = c.in_ok-first-in-One.ensures in
    let second = c.in_ok-second-in-One.ensures in
    let e = c.items-in-One.ensures in
    let d = c.items-in-One-2.ensures in
    let square = is_gram c.args.target.now c.args.weights.now c.args.rows.now c.args.forced.now c.args.lowered.now low len c.in_ok-matrix.matrix
    c.in_ok-matrix.ensures.long c.in_ok-matrix.ensures.entries in
    record {
      independent = independent_of (length c.args.target.now) (length c.args.forced.now) (row_of c.args.rows.now c.args.forced.now)
          (weight_at c.args.weights.now) c.in_ok-matrix.matrix
          (far_at right) (near_at right) c.in-One.den values c.in_ok-den.field-0 square c.in_ok-den.ensures.answer c.in-One.is;
      multipliers = multipliers_of c.args.target.now c.args.weights.now c.args.rows.now c.args.forced.now c.args.lowered.now low len
          c.in_ok-matrix.matrix right values c.in-One.den f square
          (λ i lt. ap (λ (xs : List Far). far_at xs i) c.items.ensures ∙ c.in_ok-right.ensures.far i lt)
          (λ i lt. ap (λ (xs : List Far). near_at xs i) c.items.ensures ∙ c.in_ok-right.ensures.near i lt)
          c.in_ok-den.field-0 c.in_ok-den.ensures.answer c.in_ok-den.ensures.bounds
          (λ ones. c.in_ok-den.ensures.smaller (first_system c.args.target.now c.args.weights.now c.args.rows.now c.args.lowered.now
          (length c.args.forced.now) c.in_ok-matrix.matrix right p low sides ones)) c.in-One.is
          (record {
            den_is = den_back c.in_ok-matrix.matrix (far_at right) (near_at right) c.in-One.den values c.in_ok-den.field-0 c.in_ok-den.ensures.answer
                c.in_ok-den.ensures.bounds c.in-One.is;
            long_first = first.long ∙ ap length e;
            long_second = second.long ∙ ap length d;
            first = λ i lt. first.parts i (rw e lt) ∙ ap (λ (xs : List Far). far_at xs i) e;
            second = λ i lt. second.parts i (rw d lt) ∙ ap (λ (xs : List Far). near_at xs i) d;
          });
    }
