use Rattle.std.proofs.Common.{◌≤◌, ◌<◌, ◌/◌, ◌^◌, arith, rules, get_or, pos}
use Rattle.std.proofs.lemmas.Bool.Decides.{nat_tests}
use Rattle.std.proofs.lemmas.Int.{to_z-of_z}
use Rattle.std.proofs.lemmas.Nat.{le_or_l, le_or_r}
use Rattle.choices.proofs.UnitLaws.{bits-floor, floor-more}
use mir.Val.{SFits}
use mir.Syntax.{w64}
use Rattle.choices.proofs.coarse.put_units.Goals as goal

pub loop-i-preserved : goal.loop-i-preserved
loop-i-preserved c = λ small.
    let at = c.loop-i.i in
    let line = c.args.line.now in
    let unit = 2 ^ c.args.shift in
    let z = get_or line at (pos 0) in
    let bits = c.cast_unsigned-bits.result in
    let before : c.loop-i.seen < 2 ^ 63 = omega (arith, small, le_or_l c.loop-i.seen bits) in
    let own : bits < 2 ^ 63 = omega (arith, small, le_or_r c.loop-i.seen bits) in
    let given : SFits w64 z = search rules in
    let last : c.last_bits.result ≤ bits / unit = omega (arith, c.last_bits.ensures) in
    floor-more unit line c.loop-i.low at c.last_bits.result (omega arith) (c.loop-i.invariant before)
    (bits-floor z bits unit c.last_bits.result given (rw (to_z-of_z w64 z given) at c.cast_unsigned-bits.ensures) own last)

pub returns-clause-floor : goal.returns-clause-floor
returns-clause-floor c = λ h s inside some.
    let small : c.loop-i.seen < 2 ^ 63 = grind (arith, nat_tests) in
    c.loop-i.invariant small s (omega arith)
