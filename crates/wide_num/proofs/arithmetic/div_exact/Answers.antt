use Rattle.std.proofs.Common.{ℤ, ap, arith, int_div, ◌∙◌, ◌*ℤ◌}
use Rattle.std.specs.Int.{w128}
use Rattle.std.proofs.lemmas.Int.{quot_is, fits_signed_from_abs}
use Rattle.wide_num.proofs.Ints.{exact_quot, exact_le}
use Rattle.wide_num.proofs.arithmetic.div_exact.Goals as goal

pub returns-else-unsigned_abs-lt-SIGNED_SHORT : goal.returns-else-unsigned_abs-lt-SIGNED_SHORT
returns-else-unsigned_abs-lt-SIGNED_SHORT c =
    let small = exact_le c.args.a c.args.b c.requires.divides.0 c.requires.nonzero c.requires.divides.1 in
    ap (λ (x : ℤ). c.args.b *ℤ x)
    (quot_is w128 c.args.a c.args.b c.ranges.a c.ranges.b (fits_signed_from_abs w128 (int_div c.args.a c.args.b) (omega arith)))
    ∙ exact_quot c.args.a c.args.b c.requires.divides.0 c.requires.nonzero c.requires.divides.1
