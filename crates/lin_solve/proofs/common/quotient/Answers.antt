use Rattle.std.proofs.Common.{◌≡◌, ◌*ℤ◌, unsigned_abs, FitsSigned, rules, ap, ◌∙◌, arith, sym, subst}
use Rattle.std.specs.Int.{w128}
use Rattle.wide_num.specs.Range.{Divides}
use Rattle.std.proofs.lemmas.Int.{to_z-of_z, unsigned_abs-mul}
use Rattle.lin_solve.proofs.common.quotient.Goals as goal

pub div_exact-requires-clause-range : goal.div_exact-requires-clause-range
div_exact-requires-clause-range c =
    let d = c.ranges.den in let p = c.ranges.part in
    let f : FitsSigned w128 c.times-product.result = search rules in
    let e : c.times-product.result ≡ c.args.den *ℤ c.args.part = simp to_z-of_z at c.times-product.ensures in
    simp to_z-of_z (omega (arith, ap unsigned_abs e, unsigned_abs-mul c.args.den c.args.part, c.requires.room))

pub div_exact-requires-clause-divides : goal.div_exact-requires-clause-divides
div_exact-requires-clause-divides c =
    let d = c.ranges.den in let p = c.ranges.part in let g = c.ranges.c in
    let f : FitsSigned w128 c.times-product.result = search rules in
    let e : c.times-product.result ≡ c.args.den *ℤ c.args.part = simp to_z-of_z at c.times-product.ensures in
    simp to_z-of_z (subst (Divides c.args.c) (sym e) c.requires.whole)

pub returns : goal.returns
returns c =
    let d = c.ranges.den in let p = c.ranges.part in let g = c.ranges.c in
    let f : FitsSigned w128 c.times-product.result = search rules in
    let r : FitsSigned w128 c.div_exact.result = search rules in
    let e : c.times-product.result ≡ c.args.den *ℤ c.args.part = simp to_z-of_z at c.times-product.ensures in
    simp to_z-of_z (simp to_z-of_z at c.div_exact.ensures ∙ e)
