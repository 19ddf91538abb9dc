-- The steps of the search as the code takes them.
use Rattle.std.proofs.Common.{◌≡◌, ℕ, suc, ◌+◌, ◌<◌, ◌≤◌, arith, add-one, subst, List, [], ◌∷◌, ◌++◌, length}
use Rattle.std.specs.Prelude.{ℤ, pos, ◌-ℤ◌, ◌*ℤ◌, ◌<ℤ◌, ◌≤ℤ◌}
use Rattle.far_num.specs.declared.Row.{Row}
use Rattle.nearest_point.specs.declared.settle.Held.{Held}
use Rattle.wide_num.specs.Sums.{dot, nth}
use Rattle.nearest_point.specs.Problem.{IsProblem, weight_at, coefficients, bounds}
use Rattle.nearest_point.specs.Numbers.{at_t, large}
use Rattle.nearest_point.specs.Found.{HasParts, IsNear, IsOwed, point_at, multiplier_at}
use Rattle.nearest_point.proofs.Steps.{near_force, near_take, owed_force, owed_less}
use Rattle.nearest_point.proofs.Whole.{have_weights}

-- if the point violates row k, what is owed is owed with row k forced and the rows after it
pub force_owed : (target : List ℤ) (weights : List ℕ) (rows : List Row) (forced : List ℕ) (from k q : ℕ) (h : Held) → q ≡ suc k → k < length rows → from ≤ k
    → IsOwed target rows forced from → IsNear target weights rows forced q h → HasParts target weights rows h
    → dot (length h.far.items) (coefficients rows k) (point_at h) <ℤ (h.den *ℤ bounds rows k)
    → IsOwed target rows (forced ++ k ∷ []) (k + 1)
force_owed target weights rows forced from k q h e lt le (d, (x, owed)) near parts violated =
    let near' : IsNear target weights rows forced (suc k) h = subst (λ (t : ℕ). IsNear target weights rows forced t h) e near in
    let violated' : dot (length target) (coefficients rows k) (point_at h) <ℤ (h.den *ℤ bounds rows k) =
    subst (λ (t : ℕ). dot t (coefficients rows k) (point_at h) <ℤ (h.den *ℤ bounds rows k)) parts.long_far violated in
    let less = owed_less (length target) (length rows) (coefficients rows) (bounds rows) forced from k d x le owed in
    let o = owed_force (length target) (length rows) (coefficients rows) (bounds rows) (at_t large (λ j. pos 0 -ℤ weight_at weights j) (nth target))
    (weight_at weights)
    forced k lt d x less h.rows.items h.den (point_at h) (multiplier_at h) near' violated' in
    rw add-one (_, (_, o))

-- if a point violates row k, the one found with row k forced is right from row k on without forcing it
pub force_near : (target : List ℤ) (weights : List ℕ) (rows : List Row) (forced : List ℕ) (k q : ℕ) (y x : Held) → q ≡ suc k → k < length rows
    → IsProblem target weights rows
    → IsNear target weights rows forced q y → HasParts target weights rows y
    → dot (length y.far.items) (coefficients rows k) (point_at y) <ℤ (y.den *ℤ bounds rows k)
    → IsNear target weights rows (forced ++ k ∷ []) (k + 1) x → IsNear target weights rows forced k x
force_near target weights rows forced k q y x e lt problem near parts violated found =
    let near' : IsNear target weights rows forced (suc k) y = subst (λ (t : ℕ). IsNear target weights rows forced t y) e near in
    let violated' : dot (length target) (coefficients rows k) (point_at y) <ℤ (y.den *ℤ bounds rows k) =
    subst (λ (t : ℕ). dot t (coefficients rows k) (point_at y) <ℤ (y.den *ℤ bounds rows k)) parts.long_far violated in
    let found' : IsNear target weights rows (forced ++ k ∷ []) (suc k) x = subst (λ (t : ℕ). IsNear target weights rows (forced ++ k ∷ []) t x)
    (omega arith) found in
    near_force (length target) (length rows) (coefficients rows) (bounds rows) (at_t large (λ j. pos 0 -ℤ weight_at weights j) (nth target))
    (weight_at weights) (have_weights (length target) weights problem.weighed)
    forced k lt y.rows.items y.den (point_at y) (multiplier_at y) near' violated' x.rows.items x.den (point_at x) (multiplier_at x) found'

-- a point that meets row k and is right from the next row on is right from row k on
pub take_near : (target : List ℤ) (weights : List ℕ) (rows : List Row) (forced : List ℕ) (k q : ℕ) (h : Held) → q ≡ suc k
    → IsNear target weights rows forced q h → HasParts target weights rows h
    → (h.den *ℤ bounds rows k) ≤ℤ dot (length h.far.items) (coefficients rows k) (point_at h) → IsNear target weights rows forced k h
take_near target weights rows forced k q h e near parts met =
    let near' : IsNear target weights rows forced (suc k) h = subst (λ (t : ℕ). IsNear target weights rows forced t h) e near in
    let met' : (h.den *ℤ bounds rows k) ≤ℤ dot (length target) (coefficients rows k) (point_at h) = subst
    (λ (t : ℕ). (h.den *ℤ bounds rows k) ≤ℤ dot t (coefficients rows k) (point_at h)) parts.long_far met in
    near_take (length target) (length rows) (coefficients rows) (bounds rows) (at_t large (λ j. pos 0 -ℤ weight_at weights j) (nth target)) (weight_at weights)
    forced k h.rows.items h.den (point_at h) (multiplier_at h) near' met'
