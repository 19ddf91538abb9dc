use Rattle.std.proofs.Common.{pos, ◌≤ℤ◌, rules, ◌∙◌, arith}
use Rattle.std.proofs.lemmas.Int.{ints, quot_is, quot_fits}
use Rattle.std.specs.Prelude.{FitsSigned}
use mir.Syntax.{w128}
use Rattle.blocking.proofs.Parts.{quotient-is}
use Rattle.blocking.proofs.row.exact_quotient.Goals as goal

pub returns : goal.returns
returns c = λ x e.
    let d : pos 1 ≤ℤ c.args.den = c.requires.den in
    let f : FitsSigned w128 c.args.total = search rules in
    let h : FitsSigned w128 c.args.den = search rules in
    quot_is w128 c.args.total c.args.den f h (quot_fits w128 c.args.total c.args.den f (omega (arith, ints)))
    ∙ quotient-is c.args.total c.args.den x c.requires.total d e
