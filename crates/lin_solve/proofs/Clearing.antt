-- The columns but one have a kernel row, and it clears them.
use Rattle.std.proofs.Math.Nat.{le_of_eq, le_trans}
use Rattle.std.proofs.Common.{List, [], ap, arith, inl, inr, length, pos, refl, slice_index_or, subst, suc, sym, unsigned_abs, zero, ℕ, ℤ, ◌*ℤ◌, ◌<◌}
use Rattle.std.proofs.Common.{◌∙◌, ◌≡◌, ◌≤◌}
use Rattle.std.proofs.lemmas.Bool.{cases_eq}
use Rattle.wide_num.proofs.Ints.{*ℤ-one}
use Rattle.lin_solve.specs.Matrix.{row, IsCleared, OnlyZero}
use Rattle.lin_solve.specs.Bounds.{nat_total, size, AreLines, AreSized, HasSizedColumns, IsBounded}
use Rattle.lin_solve.specs.Elimination.{IsKernelRow}
use Rattle.lin_solve.specs.Clearing.{IsKeptColumn, IsClearing}
use Rattle.wide_num.specs.Sums.{dot, nth}
use Rattle.wide_num.proofs.Sums.{dot-zero, dot_comm, total-same}
use Rattle.lin_solve.proofs.Siegel.{nat_total-le}
use Rattle.lin_solve.proofs.Inverse.{Solvable, solvable, unit, unit-same}

nat_total-zero : (n : ℕ) (f : ℕ → ℕ) → ((i : ℕ) → i < n → f i ≡ 0) → nat_total n f ≡ 0
nat_total-zero zero f h = refl
nat_total-zero (suc n) f h = omega (arith, h zero (omega arith), nat_total-zero n (λ (i : ℕ). f (suc i)) (λ i l. h (suc i) (omega arith)))

module _ (out : ℕ) (lines all : List (List ℤ)) (b : IsBounded lines) (lo : out < length lines) (long : length all ≡ length lines)
    (columns : (i : ℕ) → i < length lines → IsKeptColumn lines out i (slice_index_or all i [])) where
  -- the kept columns keep each limit of the columns
  sizes : (limit : ℕ) → HasSizedColumns limit lines → AreSized limit (length lines) all
  sizes limit h k l = sized_at k (subst (λ (m : ℕ). k < m) long l)
    where
      sized_at : (k : ℕ) → k < length lines → size (length lines) (row all k) ≤ limit
      sized_at k l =
          let c = columns k l in
          elim (cases_eq k out) [
            | inl e ↦ (let z : size (length lines) (row all k) ≡ 0 = nat_total-zero (length lines) (λ (i : ℕ). unsigned_abs (row all k i))
                (λ i li. ap unsigned_abs (c.zero e i li)) in omega (arith, z))
            | inr ne ↦ le_trans {m = size (length lines) (λ (m : ℕ). row lines m k)}
                (nat_total-le (length lines) (λ (i : ℕ). unsigned_abs (row all k i)) (λ (i : ℕ). unsigned_abs (row lines i k))
                (λ i li. le_of_eq (ap unsigned_abs (c.is ne i li))))
                (h k l)
          ]

  -- the kept columns, as lines, are as long as there are lines and keep a limit that leaves room
  pub kept_lines : AreLines (length lines) all
  kept_lines = record {
    limit = b.limit;
    some = b.some;
    room = b.room;
    long = λ k l. let c = columns k (subst (λ (m : ℕ). k < m) long l) in c.long;
    sized = sizes b.limit b.columns;
  }

  -- the kept columns, as lines, send more than 0 to 0
  pub never : OnlyZero (length lines) all → ⊥
  never only =
      let w : Solvable (length lines) (row all) (unit out) =
      solvable (length lines) (row all) (λ z h. only z (subst (λ (m : ℕ). IsCleared (length lines) m all z) (sym long) h)) (unit out) in
      let z : dot (length lines) (row all out) w.y ≡ pos 0 =
      dot_comm (length lines) (row all out) w.y ∙ dot-zero (length lines) w.y (row all out) (λ k l. (columns out lo).zero refl k l) in
      w.apart (sym (*ℤ-one w.d) ∙ ap (λ (x : ℤ). w.d *ℤ x) (sym (unit-same out)) ∙ sym (w.is out lo) ∙ z)

  -- a kernel row of the kept columns is a clearing for the column that is left out
  pub clears : (f : List ℤ) → IsKernelRow (length lines) all f → IsClearing lines out f
  clears f k = record {
    long = k.long;
    place = k.place;
    below = k.below;
    apart = k.apart;
    small = λ limit one h. k.small limit one (sizes limit h);
    clear = λ j l ne.
        dot_comm (length lines) (nth f) (λ (m : ℕ). row lines m j)
        ∙ total-same (length lines) (λ (m : ℕ). row lines m j *ℤ nth f m) (λ (m : ℕ). row all j m *ℤ nth f m)
        (λ m lm. ap (λ (x : ℤ). x *ℤ nth f m) (sym ((columns j l).is ne m lm)))
        ∙ k.cleared j (subst (λ (m : ℕ). j < m) (sym long) l);
  }
