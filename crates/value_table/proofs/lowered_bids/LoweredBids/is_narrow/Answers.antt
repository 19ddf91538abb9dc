use Rattle.std.proofs.Common.{◌≤◌, ◌^◌, arith, rules, unsigned_abs}
use Rattle.std.proofs.lemmas.Int.{to_z-of_z}
use Rattle.value_table.proofs.NarrowLaws.{narrow-spread}
use mir.Val.{SFits}
use mir.Syntax.{w128}
use Rattle.value_table.proofs.lowered_bids.LoweredBids.is_narrow.Goals as goal

pub returns-then-unsigned_abs-le-NARROW_DEN : goal.returns-then-unsigned_abs-le-NARROW_DEN
returns-then-unsigned_abs-le-NARROW_DEN c = λ test.
    let l = c.args.self.now in
    let den_fits : SFits w128 l.den = search rules in
    let value = simp to_z-of_z at c.unsigned_abs.ensures.value in
    let den : unsigned_abs l.den ≤ 2 ^ 13 = omega (arith, value, c.if-unsigned_abs-le-NARROW_DEN.true) in
    narrow-spread l c.kept.ensures den (c.are_narrow.ensures test)
