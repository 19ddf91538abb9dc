-- Sums of equal fractions over bidders are equal fractions.
use Rattle.std.proofs.Common.{◌≡◌, ℕ, zero, suc, ◌<◌, ◌≤◌, Bool, true, false, cond, ℤ, pos, ◌+ℤ◌, ◌*ℤ◌, sym, ◌∙◌, arith}
use Rattle.std.proofs.Math.IntN.{*ℤ_comm, *ℤ-zero}
use Rattle.auction_model.specs.Prices.{sum_over}
use Rattle.wide_num.proofs.Ints.{lin, mul-add}

zero-times : (a : ℤ) → pos 0 *ℤ a ≡ pos 0
zero-times a = *ℤ_comm (pos 0) a ∙ *ℤ-zero a

added : (x y u w a b : ℤ) → x *ℤ a ≡ y *ℤ b → u *ℤ a ≡ w *ℤ b → (x +ℤ u) *ℤ a ≡ (y +ℤ w) *ℤ b
added x y u w a b e f =
    omega (arith, lin, *ℤ_comm (x +ℤ u) a, *ℤ_comm (y +ℤ w) b, mul-add a x u, mul-add b y w, *ℤ_comm x a, *ℤ_comm y b, *ℤ_comm u a, *ℤ_comm w b, e, f)

-- if each pair of fractions is equal, so are their sums over a set of bidders
pub sums : (s : ℕ → Bool) (f g : ℕ → ℤ) (a b : ℤ) (n : ℕ) → ((j : ℕ) → 0 < j → j ≤ n → f j *ℤ a ≡ g j *ℤ b) → sum_over s f n *ℤ a ≡ sum_over s g n *ℤ b
sums s f g a b zero same = zero-times a ∙ sym (zero-times b)
sums s f g a b (suc n) same =
    added (sum_over s f n) (sum_over s g n) (cond (s (suc n)) (f (suc n)) (pos 0)) (cond (s (suc n)) (g (suc n)) (pos 0)) a b
    (sums s f g a b n (λ j some inside. same j some (omega arith))) (own (s (suc n)))
  where
    own : (t : Bool) → cond t (f (suc n)) (pos 0) *ℤ a ≡ cond t (g (suc n)) (pos 0) *ℤ b
    own true = same (suc n) (omega arith) (omega arith)
    own false = zero-times a ∙ sym (zero-times b)
