-- The system of the forced rows is small, in one of two ways.
use Rattle.std.proofs.Common.{◌≡◌, ◌⊎◌, inl, inr, ℕ, ◌*◌, ◌<◌, ◌≤◌, arith, refl, List, length, slice_index_or, unsigned_abs}
use Rattle.std.specs.Prelude.{ℤ, pos, ◌≤ℤ◌}
use Rattle.std.proofs.lemmas.Int.{ints}
use Rattle.far_num.specs.Pairs.{far_at, near_at}
use Rattle.far_num.specs.declared.Far.{Far}
use Rattle.far_num.specs.declared.Row.{Row}
use Rattle.lin_solve.specs.Matrix.{row}
use Rattle.lin_solve.specs.Solved.{IsPlainSystem, IsSmallSystem, IsWeightedSystem}
use Rattle.limits.specs.declared.TheConstants.{MOST_VALUE, MOST_WEIGHT, MOST_WEIGHTED_VALUE, MOST_WEIGHTED_WINNERS, MOST_WINNERS}
use Rattle.nearest_point.specs.Found.{IsBelowBy, IsEdge, IsLowered}
use Rattle.auction_model.specs.Ones.{AreOnes}
use Rattle.nearest_point.specs.Problem.{IsNarrow, IsProblem}

-- what is known of the matrix and the right side by each bound on weights and targets
pub record AreSides (target : List ℤ) (rows : List Row) (lowered : List ℤ) (n : ℕ) (matrix : List (List ℤ)) (right : List Far) : Type 0 where
  pub long : length matrix ≡ n
  pub few : n ≤ length target
  pub width : length lowered ≡ length target
  pub entries : (top i k : ℕ) → IsBelowBy top lowered → i < n → k < n → (pos 0 ≤ℤ row matrix i k) × (row matrix i k ≤ℤ pos (length lowered * top))
  pub fars : (i : ℕ) → i < n → unsigned_abs (far_at right i) ≤ MOST_WINNERS * MOST_WEIGHT
  pub nears : (edge i : ℕ) → IsEdge edge target rows → i < n → unsigned_abs (near_at right i) ≤ edge

below_by : (weights : List ℕ) (lowered : List ℤ) (top : ℕ) → IsLowered weights lowered → ((j : ℕ) → j < length lowered → slice_index_or weights j 0 ≤ top)
    → IsBelowBy top lowered
below_by weights lowered top l h j lt = let e = l.is j lt in let w = h j lt in (omega (arith, ints), omega (arith, ints))

-- in a problem each number of the lowered target is below 0 by at most MOST_WEIGHT
pub below_of : (target : List ℤ) (weights : List ℕ) (rows : List Row) (lowered : List ℤ) → IsProblem target weights rows → IsLowered weights lowered
    → IsBelowBy MOST_WEIGHT lowered
below_of target weights rows lowered problem low = below_by weights lowered MOST_WEIGHT low
    (λ j lt. problem.weighed.most j (let e = low.long in let f = problem.weighed.long in omega arith))

module _ (target : List ℤ) (weights : List ℕ) (rows : List Row) (lowered : List ℤ) (n : ℕ) (matrix : List (List ℤ)) (right : List Far)
    (problem : IsProblem target weights rows) (low : IsLowered weights lowered) (sides : AreSides target rows lowered n matrix right) where
  small : (size top edge most : ℕ) → length target ≤ size → IsBelowBy top lowered → length target * top ≤ most → IsEdge edge target rows → MOST_WINNERS * MOST_WEIGHT ≤ edge
      → IsSmallSystem size most edge matrix right
  small size top edge most few below product is_edge wide =
      let long = sides.long in
      let le = sides.few in
      let entry : (k i : ℕ) → k < length matrix → i < length matrix → (pos 0 ≤ℤ row matrix k i) × (row matrix k i ≤ℤ pos most) = λ k i lk li.
      (let e = sides.entries top k i below (omega arith) (omega arith) in
      let w = sides.width in
      let p = e.1 in
      (e.0, widened (length lowered) (length target) top most (row matrix k i) w product p)) in
      record {
        lines = omega arith;
        signs = λ k i lk li. (entry k i lk li).0;
        entries = λ k i lk li. (let a = (entry k i lk li).0 in let b = (entry k i lk li).1 in omega (arith, ints));
        fars = λ k lk. (let f = sides.fars k (omega arith) in omega arith);
        nears = λ k lk. sides.nears edge k is_edge (omega arith);
      }
    where
      widened : (m n t most : ℕ) (x : ℤ) → m ≡ n → n * t ≤ most → x ≤ℤ pos (m * t) → x ≤ℤ pos most
      widened m n t most x e le h = let p : m * t ≡ n * t = rw e refl in omega (arith, ints)

  pub first_system : AreOnes (length target) weights → IsPlainSystem matrix right
  first_system ones =
      let few = problem.few in
      let w = sides.width in
      small MOST_WINNERS 1 MOST_VALUE MOST_WINNERS few (below_by weights lowered 1 low (λ j lt. let e = ones j (omega arith) in omega arith)) (omega arith)
      (record { sum = problem.targets.sum; small = problem.row_bounds.small }) (omega arith)

  second_system : IsNarrow target rows → IsWeightedSystem matrix right
  second_system narrow =
      let few = narrow.few in
      small MOST_WEIGHTED_WINNERS MOST_WEIGHT MOST_WEIGHTED_VALUE (MOST_WEIGHTED_WINNERS * MOST_WEIGHT) few (below_of target weights rows lowered problem low) (omega arith) (record { sum = narrow.sum; small = narrow.small })
      (omega arith)

  pub either_system : IsPlainSystem matrix right ⊎ IsWeightedSystem matrix right
  either_system = elim problem.sizes [ inl ones ↦ inl (first_system ones) | inr narrow ↦ inr (second_system narrow) ]
