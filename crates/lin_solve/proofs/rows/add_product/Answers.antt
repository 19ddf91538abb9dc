use Rattle.std.proofs.Common.{◌<◌, ◌+◌, ◌*◌, ◌^◌, ℤ, ◌+ℤ◌, ◌*ℤ◌, arith, rules, unsigned_abs}
use Rattle.std.proofs.lemmas.Int.{to_z-of_z, fits_signed_mul}
use mir.Val.{SFits}
use mir.Syntax.{w128}
use Rattle.lin_solve.proofs.rows.add_product.Goals as goal

product-fits : (sum a b : ℤ) → unsigned_abs sum + unsigned_abs a * unsigned_abs b < 2 ^ 120 → SFits w128 (a *ℤ b)
product-fits sum a b h = fits_signed_mul w128 a b (unsigned_abs a) (unsigned_abs b) (omega arith) (omega arith) (omega (arith, h))

sum-fits : (sum a b : ℤ) → unsigned_abs sum + unsigned_abs a * unsigned_abs b < 2 ^ 120 → SFits w128 (sum +ℤ a *ℤ b)
sum-fits sum a b h = search rules

pub overflow_mul-result : goal.overflow_mul-result
overflow_mul-result c =
    rw (to_z-of_z w128 c.args.a c.ranges.a, to_z-of_z w128 c.args.b c.ranges.b) (product-fits c.args.sum c.args.a c.args.b c.requires)

pub overflow_add-result : goal.overflow_add-result
overflow_add-result c =
    rw (
      to_z-of_z w128 c.args.a c.ranges.a,
      to_z-of_z w128 c.args.b c.ranges.b,
      to_z-of_z w128 c.args.sum c.ranges.sum,
      to_z-of_z w128 (c.args.a *ℤ c.args.b) (product-fits c.args.sum c.args.a c.args.b c.requires),
    )
    (sum-fits c.args.sum c.args.a c.args.b c.requires)

pub returns : goal.returns
returns c =
    rw (
      to_z-of_z w128 c.args.a c.ranges.a,
      to_z-of_z w128 c.args.b c.ranges.b,
      to_z-of_z w128 c.args.sum c.ranges.sum,
      to_z-of_z w128 (c.args.a *ℤ c.args.b) (product-fits c.args.sum c.args.a c.args.b c.requires),
    )
    (to_z-of_z w128 (c.args.sum +ℤ c.args.a *ℤ c.args.b) (sum-fits c.args.sum c.args.a c.args.b c.requires))
