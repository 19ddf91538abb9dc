-- A number is a weight times a sum exactly if the quotient is the sum and nothing is left over.
use Rattle.std.specs.Prelude.{◌≡◌, ◌≢◌, ℕ, ◌≤◌, ◌==◌, ◌↔◌, Bool, IsTrue, false, ℤ, pos, ◌*ℤ◌, ◌+ℤ◌, refl}
use Rattle.std.specs.Int.RustNames.{FitsSigned, int_div, int_rem}
use Rattle.std.specs.Int.{w128}
use Rattle.std.proofs.Common.{sym, ◌∙◌, ap, subst, arith, to_z, of_z}
use Rattle.std.proofs.lemmas.Int.{ints, to_z-of_z, to_z_pos, quot-rem, quot_fits, rem_is}
use Rattle.std.proofs.Math.IntN.{*ℤ_comm}
use Rattle.wide_num.proofs.Ints.{exact_quot, mul_cancel}
use Rattle.cert_check.proofs.SumLaws.{bits-same}

module _ (number sum : ℤ) (w : ℕ) (some : 1 ≤ w) where
  apart : pos w ≢ pos 0
  apart e = absurd (omega (arith, ints, e, some))

  quotient : number ≡ pos w *ℤ sum → int_div number (pos w) ≡ sum
  quotient e = mul_cancel (pos w) (int_div number (pos w)) sum apart (exact_quot number (pos w) sum apart (sym e) ∙ e)

  rest : number ≡ pos w *ℤ sum → int_rem number (pos w) ≡ pos 0
  rest e =
      let q : pos w *ℤ int_div number (pos w) ≡ number = exact_quot number (pos w) sum apart (sym e) in
      none (int_div number (pos w) *ℤ pos w) (int_rem number (pos w)) number (quot-rem number (pos w)) (*ℤ_comm (int_div number (pos w)) (pos w) ∙ q)
    where
      none : (x r n : ℤ) → x +ℤ r ≡ n → x ≡ n → r ≡ pos 0
      none x r n h e = omega (arith, ints, h, e)

  whole : int_rem number (pos w) ≡ pos 0 → int_div number (pos w) ≡ sum → number ≡ pos w *ℤ sum
  whole r q = up (int_div number (pos w) *ℤ pos w) (int_rem number (pos w)) number (quot-rem number (pos w)) r ∙ ap (λ (x : ℤ). x *ℤ pos w) q
      ∙ *ℤ_comm sum (pos w)
    where
      up : (x r n : ℤ) → x +ℤ r ≡ n → r ≡ pos 0 → n ≡ x
      up x r n h e = omega (arith, ints, h, e)

  module _ (most : w ≤ 20) (number_fits : FitsSigned w128 number) (sum_fits : FitsSigned w128 sum) where
    number-back : to_z w128 (of_z w128 number) ≡ number
    number-back = to_z-of_z w128 number number_fits

    weight-back : to_z w128 w ≡ pos w
    weight-back = to_z_pos w128 w (omega arith)

    weight-fits : FitsSigned w128 (pos w)
    weight-fits = omega (arith, ints)

    quot-same : int_div (to_z w128 (of_z w128 number)) (to_z w128 w) ≡ int_div number (pos w)
    quot-same = ap (λ (x : ℤ). int_div x (to_z w128 w)) number-back ∙ ap (λ (x : ℤ). int_div number x) weight-back

    rem-same : int_rem (to_z w128 (of_z w128 number)) (to_z w128 w) ≡ int_rem number (pos w)
    rem-same = ap (λ (x : ℤ). int_rem x (to_z w128 w)) number-back ∙ ap (λ (x : ℤ). int_rem number x) weight-back

    -- if nothing is left over, the quotient is the sum exactly if the number is the weight times the sum
    pub is-exact : of_z w128 (int_rem (to_z w128 (of_z w128 number)) (to_z w128 w)) ≡ 0
        → IsTrue (of_z w128 (int_div (to_z w128 (of_z w128 number)) (to_z w128 w)) == of_z w128 sum) ↔ (number ≡ pos w *ℤ sum)
    is-exact none =
        let same = bits-same (int_div (to_z w128 (of_z w128 number)) (to_z w128 w)) sum (int_div number (pos w)) sum
        (subst (FitsSigned w128) (sym quot-same) (quot_fits w128 number (pos w) number_fits (omega (arith, ints)))) sum_fits quot-same refl in
        let r : int_rem number (pos w) ≡ pos 0 = sym (rem-bits) ∙ ap (to_z w128) none in
        (λ t. whole r (same.0 t), λ e. same.1 (quotient e))
      where
        rem-bits : to_z w128 (of_z w128 (int_rem (to_z w128 (of_z w128 number)) (to_z w128 w))) ≡ int_rem number (pos w)
        rem-bits = ap (λ (x : ℤ). to_z w128 (of_z w128 (int_rem (to_z w128 (of_z w128 number)) x))) weight-more
            ∙ rem_is w128 number (pos w) number_fits weight-fits
          where
            weight-more : to_z w128 w ≡ to_z w128 (of_z w128 (pos w))
            weight-more = weight-back ∙ sym (to_z-of_z w128 (pos w) weight-fits)

    -- if something is left over, the number isn't the weight times the sum
    pub not-exact : of_z w128 (int_rem (to_z w128 (of_z w128 number)) (to_z w128 w)) ≢ 0 → IsTrue false ↔ (number ≡ pos w *ℤ sum)
    not-exact more = (λ t. cc, λ e. absurd (more (ap (of_z w128) (rem-same ∙ rest e))))

-- equal numbers serve as well
pub times-same : (b : Bool) (k x y a d : ℤ) → x ≡ a → y ≡ d → IsTrue b ↔ (x ≡ k *ℤ y) → IsTrue b ↔ (a ≡ k *ℤ d)
times-same b k x y a d e f h = (
  λ t. sym e ∙ h.0 t ∙ ap (λ (z : ℤ). k *ℤ z) f,
  λ g. h.1 (e ∙ g ∙ ap (λ (z : ℤ). k *ℤ z) (sym f)),
)
