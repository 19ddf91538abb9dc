use Rattle.std.proofs.Common.{◌≤◌, ◌+◌, ◌*◌, ◌^◌, ℤ, ◌-ℤ◌, ◌*ℤ◌, arith, rules, unsigned_abs}
use Rattle.std.proofs.lemmas.Int.{to_z-of_z, fits_signed_mul}
use mir.Val.{SFits}
use mir.Syntax.{w128}
use Rattle.value_table.proofs.lowered_bids.lowered_worth.Goals as goal

product-fits : (den net surplus : ℤ)
    → unsigned_abs den * unsigned_abs net + unsigned_abs surplus ≤ 2 ^ 120 → SFits w128 (den *ℤ net)
product-fits den net surplus h =
    fits_signed_mul w128 den net (unsigned_abs den) (unsigned_abs net) (omega arith) (omega arith) (omega (arith, h))

worth-fits : (den net surplus : ℤ) → unsigned_abs den * unsigned_abs net + unsigned_abs surplus ≤ 2 ^ 120 → SFits w128 ((den *ℤ net) -ℤ surplus)
worth-fits den net surplus h = search rules

pub overflow_mul-result : goal.overflow_mul-result
overflow_mul-result c =
    rw (to_z-of_z w128 c.args.den c.ranges.den, to_z-of_z w128 c.args.net c.ranges.net) (product-fits c.args.den c.args.net c.args.surplus c.requires)

pub overflow_sub-result : goal.overflow_sub-result
overflow_sub-result c =
    rw (
      to_z-of_z w128 c.args.den c.ranges.den,
      to_z-of_z w128 c.args.net c.ranges.net,
      to_z-of_z w128 c.args.surplus c.ranges.surplus,
      to_z-of_z w128 (c.args.den *ℤ c.args.net) (product-fits c.args.den c.args.net c.args.surplus c.requires),
    )
    (worth-fits c.args.den c.args.net c.args.surplus c.requires)

pub returns : goal.returns
returns c =
    rw (
      to_z-of_z w128 c.args.den c.ranges.den,
      to_z-of_z w128 c.args.net c.ranges.net,
      to_z-of_z w128 c.args.surplus c.ranges.surplus,
      to_z-of_z w128 (c.args.den *ℤ c.args.net) (product-fits c.args.den c.args.net c.args.surplus c.requires),
    )
    (to_z-of_z w128 ((c.args.den *ℤ c.args.net) -ℤ c.args.surplus) (worth-fits c.args.den c.args.net c.args.surplus c.requires))
