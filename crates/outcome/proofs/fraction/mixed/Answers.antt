use Rattle.std.proofs.Common.{rules, ◌%◌, FitsSigned, unsigned_abs, to_z, of_z}
use Rattle.std.specs.Int.{w128}
use Rattle.outcome.proofs.Lowest.{lowest-terms, divisor-above, gcd-of}
use Rattle.outcome.proofs.fraction.mixed.Goals as goal

pub nonzero_div-result-2 : goal.nonzero_div-result-2
nonzero_div-result-2 c =
    let fits : FitsSigned w128 c.gcd-divisor.result = search rules in
    let is = gcd-of c.args.n c.args.d c.gcd-divisor.result c.requires.denominator.0 c.requires.denominator.1 fits c.gcd-divisor.ensures.greatest in
    divisor-above (c.args.n % c.args.d) c.args.d (unsigned_abs (to_z w128 (of_z w128 c.gcd-divisor.result))) c.requires.denominator.0 is

pub nonzero_div-result-3 : goal.nonzero_div-result-3
nonzero_div-result-3 c =
    let fits : FitsSigned w128 c.gcd-divisor.result = search rules in
    let is = gcd-of c.args.n c.args.d c.gcd-divisor.result c.requires.denominator.0 c.requires.denominator.1 fits c.gcd-divisor.ensures.greatest in
    divisor-above (c.args.n % c.args.d) c.args.d (unsigned_abs (to_z w128 (of_z w128 c.gcd-divisor.result))) c.requires.denominator.0 is

pub returns-clause-fraction : goal.returns-clause-fraction
returns-clause-fraction c =
    let fits : FitsSigned w128 c.gcd-divisor.result = search rules in
    let is = gcd-of c.args.n c.args.d c.gcd-divisor.result c.requires.denominator.0 c.requires.denominator.1 fits c.gcd-divisor.ensures.greatest in
    lowest-terms c.args.n c.args.d (unsigned_abs (to_z w128 (of_z w128 c.gcd-divisor.result))) c.requires.denominator.0 is
