use Rattle.std.proofs.Common.{◌≡◌, ◌≤◌, ◌+◌, ◌*◌, ◌/◌, ◌%◌, ◌^◌, ◌≤ℤ◌, ℕ, sym, subst, arith, rules, get_or, pos}
use Rattle.std.proofs.lemmas.Bool.Decides.{nat_tests}
use Rattle.std.proofs.lemmas.Int.{to_z-of_z}
use Rattle.std.proofs.lemmas.Nat.{le_or_l, le_or_r, pow_pos}
use Rattle.choices.proofs.UnitLaws.{bits-ceiling, ceiling-more}
use mir.Val.{SFits}
use mir.Syntax.{w64}
use Rattle.choices.proofs.coarse.put_high.Goals as goal

pub loop-i-preserved : goal.loop-i-preserved
loop-i-preserved c = λ small.
    let at = c.loop-i.i in
    let line = c.args.line.now in
    let unit = 2 ^ c.args.shift in
    let z = get_or line at (pos 0) in
    let bits = c.cast_unsigned.result in
    let part = bits / unit in
    let before : c.loop-i.seen ≤ 32767 = omega (arith, small, le_or_l c.loop-i.seen part) in
    let own : part ≤ 32767 = omega (arith, small, le_or_r c.loop-i.seen part) in
    let given : SFits w64 z = search rules in
    let up : (c.last_bits.result + 1) % 2 ^ 16 ≡ part + 1 = omega (arith, own, c.last_bits.ensures) in
    let above : z ≤ℤ pos ((part + 1) * unit) = bits-ceiling z bits unit given (rw (to_z-of_z w64 z given) at c.cast_unsigned.ensures) (pow_pos c.args.shift) in
    ceiling-more unit line c.loop-i.high at ((c.last_bits.result + 1) % 2 ^ 16) (omega arith) (c.loop-i.invariant before)
    (subst (λ (n : ℕ). z ≤ℤ pos (n * unit)) (sym up) above) (omega (arith, up, own))

pub returns-clause-ceiling : goal.returns-clause-ceiling
returns-clause-ceiling c = λ h.
    let small : c.loop-i.seen ≤ 32767 = grind (arith, nat_tests) in
    record {
      above = λ s inside. (c.loop-i.invariant small s (omega arith)).0;
      short = λ s inside. (c.loop-i.invariant small s (omega arith)).1;
    }
