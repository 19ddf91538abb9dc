use Rattle.std.proofs.Common.{◌≡◌, ℕ, subst, arith, unsigned_abs, to_z, ◌∙◌, ap}
use Rattle.std.specs.Int.{IsGcd, w128}
use Rattle.std.proofs.lemmas.Int.{ints, to_z-of_z}
use Rattle.wide_num.proofs.arithmetic.gcd.Goals as goal

pub returns-clause-greatest : goal.returns-clause-greatest
returns-clause-greatest c =
    let same : c.euclid.result ≡ unsigned_abs (to_z w128 c.euclid.result) = omega (arith, ints) in
    let left : c.unsigned_abs.result ≡ unsigned_abs c.args.a = c.unsigned_abs.ensures.value ∙ ap unsigned_abs (to_z-of_z w128 c.args.a c.ranges.a) in
    let right : c.unsigned_abs-2.result ≡ unsigned_abs c.args.b = c.unsigned_abs-2.ensures.value ∙ ap unsigned_abs (to_z-of_z w128 c.args.b c.ranges.b) in
    subst (λ (g : ℕ). IsGcd (unsigned_abs c.args.a) (unsigned_abs c.args.b) g) same
    (subst (λ (x : ℕ). IsGcd x (unsigned_abs c.args.b) c.euclid.result) left
    (subst (λ (y : ℕ). IsGcd c.unsigned_abs.result y c.euclid.result) right c.euclid.ensures.greatest))
