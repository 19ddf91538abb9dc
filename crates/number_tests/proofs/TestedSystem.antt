-- A system whose conditions were tested.
use Rattle.far_num.specs.Pairs.{far_at, near_at}
use Rattle.far_num.specs.declared.Far.{Far}
use Rattle.lin_solve.proofs.Small.{mul_le}
use Rattle.lin_solve.specs.Solved.{IsSmallSystem}
use Rattle.lin_solve.specs.Matrix.{row}
use Rattle.std.proofs.Common.{List, arith, length, pos, subst, sym, unsigned_abs, ℕ, ℤ, ◌*◌, ◌+◌, ◌<◌, ◌≡◌, ◌≤ℤ◌, ◌≤◌}
use Rattle.wide_num.specs.Sums.{nth}

-- what was tested of the entries and of the right side holds of the matrix
pub system : (count top edge n : ℕ) (xs : List ℤ) (right : List Far) (m : List (List ℤ)) → n ≤ count → length xs ≡ n * n → length right ≡ n →
    ((k : ℕ) → k < length xs → (pos 0 ≤ℤ nth xs k) × (unsigned_abs (nth xs k) ≤ top)) →
    ((k : ℕ) → k < length right → (unsigned_abs (far_at right k) ≤ edge) × (unsigned_abs (near_at right k) ≤ edge)) →
    length m ≡ n → ((k i : ℕ) → k < n → i < n → row m k i ≡ nth xs (k * n + i)) → IsSmallSystem count top edge m right
system count top edge n xs right m few wide long small parts lines entries = record {
  lines = omega (arith, few, lines);
  signs = λ k i lk li. subst (λ (z : ℤ). pos 0 ≤ℤ z) (sym (entries k i (low k lk) (low i li))) (small (k * n + i) (inside k i (low k lk) (low i li))).0;
  entries = λ k i lk li. subst (λ (z : ℤ). unsigned_abs z ≤ top) (sym (entries k i (low k lk) (low i li)))
      (small (k * n + i) (inside k i (low k lk) (low i li))).1;
  fars = λ k l. (parts k (subst (λ (j : ℕ). k < j) (sym long) (low k l))).0;
  nears = λ k l. (parts k (subst (λ (j : ℕ). k < j) (sym long) (low k l))).1;
}
  where
    low : (k : ℕ) → k < length m → k < n
    low k l = subst (λ (j : ℕ). k < j) lines l

    inside : (k i : ℕ) → k < n → i < n → k * n + i < length xs
    inside k i lk li = omega (arith, wide, mul_le n (k + 1) n (omega arith))
