-- The two cases of the conditions of a system, and the limits that they give.
use Rattle.std.proofs.Common.{List, [], arith, inl, inr, length, pos, slice_index_or, subst, sym, unsigned_abs, ℕ, ℤ, ◌*◌, ◌+◌, ◌-◌, ◌<◌, ◌^◌, ◌∙◌}
use Rattle.std.proofs.Common.{◌≡◌, ◌≤ℤ◌, ◌≤◌, ◌⊎◌}
use Rattle.std.proofs.lemmas.Int.{ints}
use Rattle.std.proofs.Math.Nat.{mul-le-mul, pow-le-pow_right, le_refl, le_trans, lt_of_le_of_lt}
use Rattle.far_num.specs.declared.Far.{Far}
use Rattle.limits.specs.declared.TheConstants.{MOST_VALUE, MOST_WEIGHT, MOST_WEIGHTED_VALUE, MOST_WEIGHTED_WINNERS, MOST_WINNERS}
use Rattle.lin_solve.specs.declared.solved.Solved.{Solved}
use Rattle.lin_solve.specs.declared.solved.Solved.TheVariants.{One, Dependent}
use Rattle.lin_solve.specs.Matrix.{row}
use Rattle.lin_solve.specs.Bounds.{size, bound, IsWithin}
use Rattle.lin_solve.specs.Solved.{AreParts, IsPlainSystem, IsSmallAnswer, IsSmallSystem, IsSystem, IsWeightedSystem, IsWithinLimits, most}
use Rattle.far_num.specs.Pairs.{far_at, near_at}
use Rattle.lin_solve.specs.Elimination.{IsKernelRow}
use Rattle.wide_num.specs.Sums.{nth}
use Rattle.lin_solve.proofs.PivotFacts.{size_small}

-- at most `count` lines with entries up to `top`, and parts up to the edge: the limit is their product
module _ (count top edge : ℕ) (m : List (List ℤ)) (right : List Far) (ys zs : List ℤ) (long : length right ≡ length m)
    (sys : IsSmallSystem count top edge m right)
    (square : (k : ℕ) → k < length m → length (slice_index_or m k []) ≡ length m)
    (py : AreParts (length right) (far_at right) ys) (pz : AreParts (length right) (near_at right) zs) (some : 1 ≤ count * top) where
  row_le : (a : ℕ → ℤ) → IsWithin top (length m) a → size (length m) a ≤ count * top
  row_le a w = le_trans {m = length m * top} (size_small (length m) top a w) (mul-le-mul sys.lines (le_refl top))

  -- the lines and columns keep the limit of count times top, and both parts of the right side keep the edge
  pub within_limits : IsWithinLimits (count * top) edge m ys zs
  within_limits = record {
    some = some;
    sized = λ k l. row_le (row m k) (λ i li. sys.entries k i l li);
    columns = λ i l. row_le (λ (k : ℕ). row m k i) (λ k lk. sys.entries k i lk l);
    far_sizes = λ k l. subst (λ (x : ℤ). unsigned_abs x ≤ edge) (sym (py.is k (subst (λ (n : ℕ). k < n) (sym long) l))) (sys.fars k l);
    near_sizes = λ k l. subst (λ (x : ℤ). unsigned_abs x ≤ edge) (sym (pz.is k (subst (λ (n : ℕ). k < n) (sym long) l))) (sys.nears k l);
  }

  -- what a limit is at the greatest count of lines bounds it
  bound_le : bound (count * top) (length m) ≤ bound (count * top) count
  bound_le = let l : length m - 1 ≤ count - 1 = omega (arith, sys.lines) in pow-le-pow_right some l

  -- the limit to the power of the lines is at most the limit to the power of the count
  pub den_le : (count * top) ^ length m ≤ (count * top) ^ count
  den_le = pow-le-pow_right some sys.lines

  -- the most that a value can be for these lines is at most that for as many lines as the count
  pub most_le : most (count * top) edge (length m) ≤ most (count * top) edge count
  most_le = mul-le-mul den_le (mul-le-mul (mul-le-mul sys.lines bound_le) (le_refl edge))

  -- if the limit leaves room for as many lines as the count, the lines and both parts are a system
  pub is_system : 2 * (count * top * (bound (count * top) count * bound (count * top) count)) < 2 ^ 120 → most (count * top) edge count < 2 ^ 119
      → (count * top) ^ count * (count * top * bound (count * top) count) < 2 ^ 120 → IsSystem m ys zs
  is_system room parts cs = record {
    limit = count * top;
    edge = edge;
    within = within_limits;
    wide = square;
    signs = λ k i l li. let h : pos 0 ≤ℤ row m k i = sys.signs k i l li in omega (arith, ints, h);
    long_fars = py.long ∙ long;
    long_nears = pz.long ∙ long;
    room = lt_of_le_of_lt {m = 2 * (count * top * (bound (count * top) count * bound (count * top) count))}
        (mul-le-mul (le_refl 2) (mul-le-mul (le_refl (count * top)) (mul-le-mul bound_le bound_le))) room;
    parts = lt_of_le_of_lt {m = most (count * top) edge count} most_le parts;
    cs = lt_of_le_of_lt {m = (count * top) ^ count * (count * top * bound (count * top) count)}
        (mul-le-mul den_le (mul-le-mul (le_refl (count * top)) bound_le)) cs;
  }

-- a system of either case
pub system_of : (m : List (List ℤ)) (right : List Far) (ys zs : List ℤ) → length right ≡ length m → IsPlainSystem m right ⊎ IsWeightedSystem m right
    → ((k : ℕ) → k < length m → length (slice_index_or m k []) ≡ length m) → AreParts (length right) (far_at right) ys
    → AreParts (length right) (near_at right) zs → IsSystem m ys zs
system_of m right ys zs long (inl s) square py pz = is_system MOST_WINNERS MOST_WINNERS MOST_VALUE m right ys zs long s square py pz (omega arith) (omega arith) (omega arith)
    (omega arith)
system_of m right ys zs long (inr s) square py pz = is_system MOST_WEIGHTED_WINNERS (MOST_WEIGHTED_WINNERS * MOST_WEIGHT) MOST_WEIGHTED_VALUE m right ys zs long s square py pz (omega arith) (omega arith) (omega arith)
    (omega arith)

-- wider bounds of an answer
pub wider_answer : (a b p q : ℕ) (s : Solved) → a ≤ b → p ≤ q → IsSmallAnswer a p s → IsSmallAnswer b q s
wider_answer a b p q (One den values) le more h = (below {b = a} le h.0, λ i l. let w = h.1 i l in (below {b = p} more w.0, below {b = p} more w.1))
  where
    below : {x b c : ℕ} → b ≤ c → x < b → x < c
    below le h = omega arith
wider_answer a b p q (Dependent v) le more h = λ i l. let k = h i l in omega (arith, k)

-- a kernel row is small by each limit
pub small_combination : (lines : List (List ℤ)) (fars nears v : List ℤ) → IsKernelRow (length lines) lines v → (limit edge : ℕ)
    → IsWithinLimits limit edge lines fars nears
    → (i : ℕ) → i < length v → unsigned_abs (nth v i) < limit ^ length lines + 1
small_combination lines fars nears v k limit edge w i l =
    let b = k.small limit w.some w.sized i (let e = k.long in omega arith) in
    let p : bound limit (length lines) ≤ limit ^ length lines = pow-le-pow_right w.some (omega arith) in
    omega (arith, b, p)

-- the answer of a system of one case is small by that case
module _ (count top edge : ℕ) (m : List (List ℤ)) (right : List Far) (ys zs : List ℤ) (long : length right ≡ length m)
    (sys : IsSmallSystem count top edge m right)
    (square : (k : ℕ) → k < length m → length (slice_index_or m k []) ≡ length m)
    (py : AreParts (length right) (far_at right) ys) (pz : AreParts (length right) (near_at right) zs) (some : 1 ≤ count * top) (s : Solved)
    (small : (limit edge : ℕ) → IsWithinLimits limit edge m ys zs → IsSmallAnswer (limit ^ length m + 1) (most limit edge (length m) + 1) s) where
  -- the answer is small by any two bounds above those for as many lines as the count
  pub small_of : (a p : ℕ) → (count * top) ^ count < a → most (count * top) edge count < p → IsSmallAnswer a p s
  small_of a p la lp =
      let d = den_le count top edge m right ys zs long sys square py pz some in
      let o = most_le count top edge m right ys zs long sys square py pz some in
      wider_answer ((count * top) ^ length m + 1) a (most (count * top) edge (length m) + 1) p s (omega (arith, d, la)) (omega (arith, o, lp))
      (small (count * top) edge (within_limits count top edge m right ys zs long sys square py pz some))

module _ (m : List (List ℤ)) (right : List Far) (ys zs : List ℤ) (long : length right ≡ length m)
    (square : (k : ℕ) → k < length m → length (slice_index_or m k []) ≡ length m)
    (py : AreParts (length right) (far_at right) ys) (pz : AreParts (length right) (near_at right) zs) (s : Solved)
    (small : (limit edge : ℕ) → IsWithinLimits limit edge m ys zs → IsSmallAnswer (limit ^ length m + 1) (most limit edge (length m) + 1) s) where
  -- if all winners weigh 1, the answer is small by the bounds 2^32 and 2^106
  pub first_case : IsPlainSystem m right → IsSmallAnswer (2 ^ 32) (2 ^ 106) s
  first_case sys = small_of MOST_WINNERS MOST_WINNERS MOST_VALUE m right ys zs long sys square py pz (omega arith) s small (2 ^ 32) (2 ^ 106) (omega arith) (omega arith)

  -- in each of the two cases the answer is small by the bounds 320^4 + 1 and 2^106
  pub either_case : IsPlainSystem m right ⊎ IsWeightedSystem m right → IsSmallAnswer (320 ^ 4 + 1) (2 ^ 106) s
  either_case (inl sys) = wider_answer (2 ^ 32) (320 ^ 4 + 1) (2 ^ 106) (2 ^ 106) s (omega arith) (omega arith) (first_case sys)
  either_case (inr sys) = small_of MOST_WEIGHTED_WINNERS (MOST_WEIGHTED_WINNERS * MOST_WEIGHT) MOST_WEIGHTED_VALUE m right ys zs long sys square py pz (omega arith) s small (320 ^ 4 + 1) (2 ^ 106) (omega arith) (omega arith)
