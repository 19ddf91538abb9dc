use Rattle.std.proofs.Common.{◌≡◌, ◌^◌, length, arith, ap, ◌∙◌, subst, to_z, of_z}
use Rattle.std.specs.Prelude.{ℤ, pos, ◌<ℤ◌, ◌≤ℤ◌}
use Rattle.std.specs.Int.{w128}
use Rattle.std.proofs.lemmas.Int.{ints}
use Rattle.wide_num.specs.Sums.{nth}
use Rattle.nearest_point.specs.Problem.{weight_at, coefficients, bounds}
use Rattle.nearest_point.specs.Numbers.{place, spread}
use Rattle.nearest_point.proofs.Answer.{Answer, answer_same}
use Rattle.nearest_point.proofs.Whole.{answer_of, below_top, few_rows, spread_same, has_least_sum, is_nearest}
use Rattle.nearest_point.proofs.nearest.Goals as goal

pub spread_out-requires-clause-few : goal.spread_out-requires-clause-few
spread_out-requires-clause-few c =
    let h = c.in_ok-held.held in
    rw (c.deref.ensures.value, c.deref-2.ensures.value)
    (few_rows c.args.target.now c.args.weights.now c.args.rows.now h c.in_ok-held.ensures.near c.requires.problem.few, c.in_ok-held.ensures.parts.long_first)

pub spread_out-requires-2-clause-few : goal.spread_out-requires-2-clause-few
spread_out-requires-2-clause-few c =
    let h = c.in_ok-held.held in
    rw (c.deref-3.ensures.value, c.deref-4.ensures.value)
    (few_rows c.args.target.now c.args.weights.now c.args.rows.now h c.in_ok-held.ensures.near c.requires.problem.few, c.in_ok-held.ensures.parts.long_second)

found : (c : goal.After-drop-held-5) → Answer (length c.args.target.now) (length c.args.rows.now) (coefficients c.args.rows.now) (bounds c.args.rows.now)
    (nth c.args.target.now) (weight_at c.args.weights.now)
    (to_z w128 (of_z w128 c.in_ok-held.held.den)) (nth c.from_vec.result) (nth c.from_vec-2.result) (nth c.from_vec-3.result)
found c =
    let h = c.in_ok-held.held in
    let p = c.in_ok-held.ensures.parts in
    let small = p.small_den in
    let positive = p.parts.far.positive in
    let back : h.den ≡ to_z w128 (of_z w128 h.den) = omega (arith, ints) in
    let problem = c.requires.problem in
    let by_row = answer_of c.args.target.now c.args.weights.now c.args.rows.now problem.weighed problem.singles problem.row_bounds h
    c.in_ok-held.ensures.near p in
    let same = answer_same (length c.args.target.now) (length c.args.rows.now) (coefficients c.args.rows.now) (bounds c.args.rows.now) (nth c.args.target.now)
    (weight_at c.args.weights.now) h.den (nth h.near.items)
    (spread (length h.rows.items) (place h.rows.items) (nth h.first.items)) (spread (length h.rows.items) (place h.rows.items) (nth h.second.items))
    (nth c.in_ok-first.first.items) (nth c.in_ok-second.second.items)
    (λ i lt. c.in_ok-first.ensures.numbers i lt ∙ spread_same c.deref.result.now h.rows.items c.deref-2.result.now h.first.items i c.deref.ensures.value
    c.deref-2.ensures.value)
    (λ i lt. c.in_ok-second.ensures.numbers i lt ∙ spread_same c.deref-3.result.now h.rows.items c.deref-4.result.now h.second.items i c.deref-3.ensures.value
    c.deref-4.ensures.value) by_row in
    let den = subst (λ (d : ℤ). Answer (length c.args.target.now) (length c.args.rows.now) (coefficients c.args.rows.now) (bounds c.args.rows.now)
    (nth c.args.target.now) (weight_at c.args.weights.now)
    d (nth h.near.items) (nth c.in_ok-first.first.items) (nth c.in_ok-second.second.items)) back same in
    rw (c.from_vec.ensures, c.from_vec-2.ensures, c.from_vec-3.ensures) den

pub returns-clause-shown : goal.returns-clause-shown
returns-clause-shown c =
    let h = c.in_ok-held.held in
    let p = c.in_ok-held.ensures.parts in
    let f = found c in
    let problem = c.requires.problem in
    let small = p.small_den in
    let positive = p.parts.far.positive in
    let back : h.den ≡ to_z w128 (of_z w128 h.den) = omega (arith, ints) in
    let den : to_z w128 (of_z w128 h.den) ≤ℤ pos (320 ^ 4) = omega (arith, ints) in
    record {
      long_at = ap length c.from_vec.ensures ∙ p.long_near;
      long_first = ap length c.from_vec-2.ensures ∙ c.in_ok-first.ensures.lengths;
      long_second = ap length c.from_vec-3.ensures ∙ c.in_ok-second.ensures.lengths;
      meets = f.meets;
      firsts = f.firsts;
      sums = f.sums;
      seconds = f.seconds;
      few = f.few;
      small_den = den;
      den_of_ones = λ ones. subst (λ (d : ℤ). d <ℤ pos (2 ^ 32)) back (p.ones_den ones);
      small_at = below_top c.args.target.now c.args.rows.now (weight_at c.args.weights.now) problem.few problem.members problem.singles problem.row_bounds
          (to_z w128 (of_z w128 h.den)) c.from_vec.result (nth c.from_vec-2.result) (nth c.from_vec-3.result)
          (ap length c.from_vec.ensures ∙ p.long_near) den f;
      small_first = rw c.from_vec-2.ensures c.in_ok-first.ensures.small;
      small_second = rw c.from_vec-3.ensures c.in_ok-second.ensures.small;
    }

pub returns-clause-least : goal.returns-clause-least
returns-clause-least c = has_least_sum c.args.target.now c.args.rows.now (weight_at c.args.weights.now) (to_z w128 (of_z w128 c.in_ok-held.held.den))
    (nth c.from_vec.result) (nth c.from_vec-2.result) (nth c.from_vec-3.result) (found c)

pub returns-clause-nearest : goal.returns-clause-nearest
returns-clause-nearest c = is_nearest c.args.target.now c.args.weights.now c.args.rows.now c.requires.problem.weighed
    (to_z w128 (of_z w128 c.in_ok-held.held.den)) (nth c.from_vec.result) (nth c.from_vec-2.result) (nth c.from_vec-3.result) (found c)
