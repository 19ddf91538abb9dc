use Rattle.std.proofs.Common.{◌<◌, ◌≤ℤ◌, arith, rules, pos}
use Rattle.std.proofs.lemmas.Int.{to_z-of_z, ints}
use Rattle.table_check.proofs.GrowthLaws.{needless-better}
use mir.Val.{SFits}
use mir.Syntax.{w128}
use Rattle.table_check.proofs.offers.TestedBids.is_needless.Goals as goal

pub returns-then-better-ne0 : goal.returns-then-better-ne0
returns-then-better-ne0 c = λ _.
    let o = c.args.self.now in
    let den_fits : SFits w128 o.den = search rules in
    let test = simp to_z-of_z at c.if-self-ge0.true in
    let den : pos 0 ≤ℤ o.den = grind (arith, ints, test) in
    let some : 0 < c.better.result = omega (arith, c.if-better-ne0.true) in
    needless-better o c.args.j c.args.i c.better.result c.kept.ensures c.requires.bid.1 some den (c.better.ensures some)
