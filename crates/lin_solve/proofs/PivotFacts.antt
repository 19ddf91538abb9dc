-- The products of a clearing row: their sizes, and what they are.
use Rattle.std.proofs.Common.{◌≡◌, ℕ, zero, suc, ◌*◌, ◌^◌, ◌<◌, ◌≤◌, ℤ, sym, ap, ◌∙◌, subst, arith, unsigned_abs, List, length}
use Rattle.std.proofs.Math.Nat.{one-le-pow, le_of_eq, le_trans}
use Rattle.lin_solve.specs.Matrix.{row}
use Rattle.lin_solve.specs.Bounds.{nat_total, size, reach, IsWithin, bound, HasRoom, HasSizedColumns, IsBounded}
use Rattle.lin_solve.specs.Elimination.{product}
use Rattle.lin_solve.specs.Clearing.{IsColumn, IsClearing, IsPivot}
use Rattle.lin_solve.specs.Solved.{IsSystem, most}
use Rattle.wide_num.specs.Sums.{dot, nth}
use Rattle.lin_solve.proofs.Siegel.{nat_total-le}
use Rattle.wide_num.proofs.Sums.{dot-same, dot_comm}
use Rattle.lin_solve.proofs.Rooms.{dot_small, reach_small, reach_room, bound_some}

nat_total-const : (n h : ℕ) → nat_total n (λ (i : ℕ). h) ≡ n * h
nat_total-const zero h = omega arith
nat_total-const (suc n) h = omega (arith, nat_total-const n h)

-- the sizes of n numbers, each at most h, sum to at most n times h
pub size_small : (n h : ℕ) (v : ℕ → ℤ) → IsWithin h n v → size n v ≤ n * h
size_small n h v w = omega (arith, nat_total-le n (λ (i : ℕ). unsigned_abs (v i)) (λ (i : ℕ). h) w, nat_total-const n h)

within_large : (k x m : ℕ) → 1 ≤ k → x ≤ m → k * m < 2 ^ 119 → x < 2 ^ 120
within_large (suc k) x m one l h = omega (arith, l, h)
within_large zero x m one l h = absurd (omega arith)

-- the lines of a system are square, and their columns keep a limit that leaves room
pub bounded_of : (lines : List (List ℤ)) (fars nears : List ℤ) → IsSystem lines fars nears → IsBounded lines
bounded_of lines fars nears s = record { limit = s.limit; some = s.within.some; room = s.room; wide = s.wide; columns = s.within.columns }

-- the sizes of the products by each limit
module _ (i limit : ℕ) (lines : List (List ℤ)) (f : List ℤ) (c : IsClearing lines i f) (some : 1 ≤ limit) (columns : HasSizedColumns limit lines) where
  small : IsWithin (bound limit (length lines)) (length lines) (nth f)
  small = c.small limit some columns

  column_size : i < length lines → (own : List ℤ) → IsColumn lines i own → size (length own) (nth own) ≤ limit
  column_size li own k =
      subst (λ (n : ℕ). size n (nth own) ≤ limit) (sym k.long)
      (le_trans {m = size (length lines) (λ (m : ℕ). row lines m i)}
      (nat_total-le (length lines) (λ (m : ℕ). unsigned_abs (nth own m)) (λ (m : ℕ). unsigned_abs (row lines m i))
      (λ m l. le_of_eq (ap unsigned_abs (k.is m l))))
      (columns i li))

  row_within : (own : List ℤ) → IsColumn lines i own → IsWithin (bound limit (length lines)) (length own) (nth f)
  row_within own k = subst (λ (n : ℕ). IsWithin (bound limit (length lines)) n (nth f)) (sym k.long) small

  -- the sizes of the products of column i with the row that clears the others sum to a number in the range
  pub c_room : i < length lines → HasRoom limit (length lines) → (own : List ℤ) → IsColumn lines i own → reach own f < 2 ^ 120
  c_room li room own k = reach_room limit (bound limit (length lines)) (reach own f) (bound_some limit (length lines) some)
      (reach_small own f limit (bound limit (length lines)) (column_size li own k) (row_within own k)) room

  f_size : size (length f) (nth f) ≤ length lines * bound limit (length lines)
  f_size = subst (λ (n : ℕ). size n (nth f) ≤ length lines * bound limit (length lines)) (sym c.long)
      (size_small (length lines) (bound limit (length lines)) (nth f) small)

  part_reach : (part : List ℤ) (edge : ℕ) → IsWithin edge (length lines) (nth part) → reach f part ≤ length lines * bound limit (length lines) * edge
  part_reach part edge w = reach_small f part (length lines * bound limit (length lines)) edge f_size
      (subst (λ (n : ℕ). IsWithin edge n (nth part)) (sym c.long) w)

  -- the sizes of the products of the clearing row with a part of the right side sum to a number in the range
  pub part_room : (part : List ℤ) (edge : ℕ) → IsWithin edge (length lines) (nth part) → most limit edge (length lines) < 2 ^ 119 → reach f part < 2 ^ 120
  part_room part edge w h = within_large (limit ^ length lines) (reach f part) (length lines * bound limit (length lines) * edge)
      (one-le-pow (length lines) limit some) (part_reach part edge w) h

  -- the product of the clearing row with the column at i is at most the limit times the bound in size
  pub c_small : (c : ℤ) → c ≡ dot (length lines) (nth f) (λ (m : ℕ). row lines m i) → i < length lines → unsigned_abs c ≤ limit * bound limit (length lines)
  c_small c e li = subst (λ (t : ℤ). unsigned_abs t ≤ limit * bound limit (length lines)) (sym (e ∙ dot_comm (length lines) (nth f) (λ (m : ℕ). row lines m i)))
      (dot_small (length lines) (λ (m : ℕ). row lines m i) (nth f) limit (bound limit (length lines)) (columns i li) small)

  -- the product of the clearing row with a part up to the edge is at most lines times bound times edge in size
  pub part_small : (part : ℕ → ℤ) (edge : ℕ) (p : ℤ) → p ≡ dot (length lines) (nth f) part → IsWithin edge (length lines) part
      → unsigned_abs p ≤ length lines * bound limit (length lines) * edge
  part_small part edge p e w = subst (λ (t : ℤ). unsigned_abs t ≤ length lines * bound limit (length lines) * edge) (sym e)
      (dot_small (length lines) (nth f) part (length lines * bound limit (length lines)) edge
      (size_small (length lines) (bound limit (length lines)) (nth f) small) w)

-- the products of a clearing row with the column at i and with both parts of the right side are a pivot
pub pivot_is : (i : ℕ) (lines : List (List ℤ)) (f : List ℤ) → IsClearing lines i f → (own fars nears : List ℤ) (x y z : ℤ) → IsColumn lines i own
    → x ≡ product own f → y ≡ product f fars → z ≡ product f nears → IsPivot lines i (nth fars) (nth nears) x y z
pivot_is i lines f c own fars nears x y z k ex ey ez = record {
  f = f;
  clearing = c;
  c_is = ex ∙ ap (λ (n : ℕ). dot n (nth own) (nth f)) k.long ∙ dot_comm (length lines) (nth own) (nth f)
      ∙ dot-same (length lines) (nth f) (nth own) (λ (m : ℕ). row lines m i) k.is;
  far_is = ey ∙ ap (λ (n : ℕ). dot n (nth f) (nth fars)) c.long;
  near_is = ez ∙ ap (λ (n : ℕ). dot n (nth f) (nth nears)) c.long;
}
