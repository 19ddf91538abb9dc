use Rattle.std.proofs.Common.{◌≡◌, ◌^◌, ◌<◌, ◌*ℤ◌, ◌+ℤ◌, length, arith, ap, ◌∙◌, to_z, of_z, unsigned_abs}
use Rattle.std.specs.Prelude.{ℤ}
use Rattle.std.specs.Int.{w128}
use Rattle.std.proofs.lemmas.Int.{ints}
use Rattle.lin_solve.proofs.Pushed.{grown, grown_length}
use Rattle.wide_num.specs.Sums.{nth, total}
use Rattle.nearest_point.specs.Found.{row_of}
use Rattle.nearest_point.specs.Problem.{weight_at}
use Rattle.nearest_point.proofs.settle.point_part.Goals as goal

pub loop-j-preserved : goal.loop-j-preserved
loop-j-preserved c =
    let j = c.loop-j.j in
    let x = to_z w128 (of_z w128 c.coordinate.result) in
    let small = c.coordinate.ensures.small in
    let back : x ≡ c.coordinate.result = omega (arith, ints) in
    let d = to_z w128 (of_z w128 c.args.den) in
    let t = c.requires.target j c.loop-j-test.true in
    let aim : to_z w128 (of_z w128 (nth c.args.target.now j)) ≡ nth c.args.target.now j = omega (arith, ints) in
    let s = c.column-moved.ensures.small in
    let same : to_z w128 (of_z w128 c.column-moved.result) ≡ c.column-moved.result = omega (arith, ints) in
    let sum : ℤ = total (length c.args.forced.now) (λ i. nth c.args.multipliers.now i *ℤ row_of c.args.rows.now c.args.forced.now i j) in
    let moved : to_z w128 (of_z w128 c.column-moved.result) ≡ sum = same ∙ c.column-moved.ensures.value in
    let here : x ≡ d *ℤ nth c.args.target.now j +ℤ weight_at c.args.weights.now j *ℤ sum =
    back ∙ c.coordinate.ensures.value ∙ ap (λ (z : ℤ). d *ℤ z +ℤ weight_at c.args.weights.now j *ℤ to_z w128 (of_z w128 c.column-moved.result)) aim
    ∙ ap (λ (z : ℤ). d *ℤ nth c.args.target.now j +ℤ weight_at c.args.weights.now j *ℤ z) moved in
    record {
      long = grown_length c.loop-j.out.items c.push.new.self.items x j c.in_ok-push.ensures.items c.loop-j.invariant.long;
      at = grown (λ j z. z ≡ d *ℤ nth c.args.target.now j +ℤ weight_at c.args.weights.now j *ℤ total (length c.args.forced.now)
          (λ i. nth c.args.multipliers.now i *ℤ row_of c.args.rows.now c.args.forced.now i j))
          c.loop-j.out.items c.push.new.self.items x j c.in_ok-push.ensures.items c.loop-j.invariant.long c.loop-j.invariant.at here;
      small = grown (λ j z. unsigned_abs z < 2 ^ 113) c.loop-j.out.items c.push.new.self.items x j c.in_ok-push.ensures.items c.loop-j.invariant.long
          c.loop-j.invariant.small (omega (arith, ints));
    }
