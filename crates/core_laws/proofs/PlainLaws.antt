-- A distance by equal weights is a multiple of the plain one.
use Rattle.std.proofs.Common.{◌≡◌, arith, sym, ap, subst, ◌∙◌}
use Rattle.std.specs.Prelude.{ℤ, pos, ◌*ℤ◌, ◌<ℤ◌}
use Rattle.std.proofs.lemmas.Int.{ints}
use Rattle.wide_num.proofs.Ints.{swap_mul}

-- a factor that both sides have is left out
cancel : (u v : ℤ) → (pos 232792560 *ℤ u) <ℤ (pos 232792560 *ℤ v) → u <ℤ v
cancel u v less = omega (arith, ints, less)

-- the same if each side has it inside
pub less-plain : (a b s t x y : ℤ) → x ≡ pos 232792560 *ℤ s → y ≡ pos 232792560 *ℤ t → (a *ℤ x) <ℤ (b *ℤ y) → (a *ℤ s) <ℤ (b *ℤ t)
less-plain a b s t x y first second less =
    let left : a *ℤ x ≡ pos 232792560 *ℤ (a *ℤ s) = ap (λ z. a *ℤ z) first ∙ swap_mul a (pos 232792560) s in
    let right : b *ℤ y ≡ pos 232792560 *ℤ (b *ℤ t) = ap (λ z. b *ℤ z) second ∙ swap_mul b (pos 232792560) t in
    cancel (a *ℤ s) (b *ℤ t) (subst (λ z. z <ℤ (pos 232792560 *ℤ (b *ℤ t))) left (subst (λ z. (a *ℤ x) <ℤ z) right less))

-- and a factor is put on both sides
pub less-weighed : (a b s t x y : ℤ) → x ≡ pos 232792560 *ℤ s → y ≡ pos 232792560 *ℤ t → (a *ℤ s) <ℤ (b *ℤ t) → (a *ℤ x) <ℤ (b *ℤ y)
less-weighed a b s t x y first second less =
    let left : a *ℤ x ≡ pos 232792560 *ℤ (a *ℤ s) = ap (λ z. a *ℤ z) first ∙ swap_mul a (pos 232792560) s in
    let right : b *ℤ y ≡ pos 232792560 *ℤ (b *ℤ t) = ap (λ z. b *ℤ z) second ∙ swap_mul b (pos 232792560) t in
    omega (arith, ints, left, right, less)
