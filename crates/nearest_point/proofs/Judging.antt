-- What a point has that was settled for some rows.
use Rattle.std.proofs.Common.{ℕ, arith, sym, ◌∙◌, List}
use Rattle.std.specs.Prelude.{ℤ}
use Rattle.far_num.specs.declared.Row.{Row}
use Rattle.nearest_point.specs.declared.settle.Held.{Held}
use Rattle.nearest_point.specs.Problem.{IsProblem}
use Rattle.nearest_point.specs.Found.{IsSettledFor, IsSized}

-- its numbers are small
pub sized : (target : List ℤ) (weights : List ℕ) (rows : List Row) (forced : List ℕ) (h : Held)
    → IsProblem target weights rows → IsSettledFor target weights rows forced h → IsSized h
sized target weights rows forced h problem settled =
    let p = settled.parts in
    let few = problem.few in
    let long = p.long_far in
    record {
      few = omega arith;
      long_near = p.long_near ∙ sym p.long_far;
      long_first = p.long_first;
      long_second = p.long_second;
      positive = p.parts.far.positive;
      small_den = p.small_den;
      small_far = p.small_far;
      small_near = p.small_near;
      small_first = p.small_first;
      small_second = p.small_second;
    }
