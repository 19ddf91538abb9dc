use Rattle.std.proofs.Common.{arith, refl, ◌∙◌, to_z, of_z}
use Rattle.std.specs.Int.{w128}
use Rattle.nearest_point.specs.Problem.{weight_at}
use Rattle.nearest_point.specs.declared.settle.Held.{Held}
use Rattle.nearest_point.proofs.Leaves.{target_small}
use Rattle.nearest_point.proofs.Settling.{IsSettled, den_returns, part_same, settled_near, settled_parts}
use Rattle.nearest_point.proofs.settle.point_of.Goals as goal

pub point_part-requires-clause-few : goal.point_part-requires-clause-few
point_part-requires-clause-few c =
    let six = c.requires.problem.few in
    let long = c.requires.lowered.long ∙ c.requires.problem.weighed.long in
    let le = c.requires.few in
    let f = c.requires.solved.multipliers.long_first in
    rw c.deref.ensures.value (omega arith, omega arith, f)

pub point_part-requires-2-clause-few : goal.point_part-requires-2-clause-few
point_part-requires-2-clause-few c =
    let six = c.requires.problem.few in
    let le = c.requires.few in
    let f = c.requires.solved.multipliers.long_second in
    rw c.deref-2.ensures.value (omega arith, omega arith, f)

pub point_part-requires-2-clause-target : goal.point_part-requires-2-clause-target
point_part-requires-2-clause-target c = target_small c.args.target.now c.requires.problem.targets

pub returns : goal.returns
returns c =
    let solved = c.requires.solved.multipliers in
    let den = den_returns c.args.target.now c.args.weights.now c.args.rows.now c.args.forced.now c.args.found solved in
    let d = to_z w128 (of_z w128 c.args.found.den) in
    let held : Held = record {
      den = d;
      far = c.in_ok-far.far;
      near = c.in_ok-near.near;
      rows = c.in_ok-rows.rows;
      first = c.args.found.first;
      second = c.args.found.second;
    } in
    let settled : IsSettled c.args.target.now c.args.weights.now c.args.rows.now c.args.forced.now c.args.lowered.now c.args.found held = record {
      low = c.requires.lowered;
      long = c.requires.lowered.long ∙ c.requires.problem.weighed.long;
      solved = solved;
      far = part_same c.args.rows.now c.args.forced.now (weight_at c.args.weights.now) d c.args.found.den
          c.args.lowered.now c.args.lowered.now c.deref.result.now c.args.found.first.items c.in_ok-far.far.items den refl c.deref.ensures.value
          c.in_ok-far.ensures.part;
      near = part_same c.args.rows.now c.args.forced.now (weight_at c.args.weights.now) d c.args.found.den
          c.args.target.now c.args.target.now c.deref-2.result.now c.args.found.second.items c.in_ok-near.near.items den refl c.deref-2.ensures.value
          c.in_ok-near.ensures.part;
      den_is = den;
      rows_are = c.in_ok-rows.ensures.items;
      first_is = refl;
      second_is = refl;
    } in
    record {
      near = settled_near c.args.target.now c.args.weights.now c.args.rows.now c.args.forced.now c.args.lowered.now c.args.found held settled
          c.requires.solved.independent;
      parts = settled_parts c.args.target.now c.args.weights.now c.args.rows.now c.args.forced.now c.args.lowered.now c.args.found held
          settled c.requires.within c.in_ok-far.ensures.small c.in_ok-near.ensures.small;
    }
