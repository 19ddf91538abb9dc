use Rattle.std.proofs.Common.{◌≡◌, ◌∙◌, ◌≤◌, ◌<◌, ◌^◌, ℤ, sym, ap, subst, arith, rules, get_or, pos, unsigned_abs}
use Rattle.std.proofs.lemmas.Bool.Decides.{nat_tests}
use Rattle.std.proofs.lemmas.Int.{to_z-of_z, to_z_pos}
use Rattle.std.proofs.lemmas.Nat.{le_or_l, le_or_r}
use Rattle.table_check.proofs.NarrowLines.{copied-more, copied-all, copied-small, narrow_is}
use mir.Val.{SFits, to_z, of_z}
use mir.Syntax.{w64, w128}
use Rattle.table_check.proofs.lines.narrow_into.Goals as goal

pub loop-i-preserved : goal.loop-i-preserved
loop-i-preserved c = λ small.
    let at = c.loop-i.i in
    let line = c.args.line.now in
    let z = get_or line at (pos 0) in
    let bits = c.cast_unsigned-bits.result in
    let before : c.loop-i.seen < 2 ^ 60 = omega (arith, small, le_or_l c.loop-i.seen bits) in
    let own : bits < 2 ^ 60 = omega (arith, small, le_or_r c.loop-i.seen bits) in
    let given : SFits w128 z = search rules in
    let is : z ≡ pos bits = narrow_is z bits given (rw (to_z-of_z w128 z given) at c.cast_unsigned-bits.ensures) own in
    let last : to_z w64 (of_z w64 c.last_bits.result) ≡ pos bits = ap (λ (n : ℤ). to_z w64 (of_z w64 n)) (c.last_bits.ensures own)
    ∙ to_z_pos w64 bits (omega (arith, own)) in
    copied-more c.loop-i.numbers line at (to_z w64 (of_z w64 c.last_bits.result)) (omega arith) (c.loop-i.invariant before) (last ∙ sym is)
    (subst (λ (n : ℤ). unsigned_abs n ≤ 2 ^ 60) (sym is) (omega (arith, own)))

pub returns-clause-same : goal.returns-clause-same
returns-clause-same c = λ h.
    let small : c.loop-i.seen < 2 ^ 60 = grind (arith, nat_tests) in
    copied-all c.loop-i.numbers c.args.line.now c.loop-i.i (omega arith) (omega arith) (c.loop-i.invariant small)

pub returns-clause-small : goal.returns-clause-small
returns-clause-small c = λ h.
    let small : c.loop-i.seen < 2 ^ 60 = grind (arith, nat_tests) in
    copied-small c.loop-i.numbers c.args.line.now c.loop-i.i (omega arith) (c.loop-i.invariant small)
