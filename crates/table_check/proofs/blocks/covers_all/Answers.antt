use Rattle.std.proofs.Common.{rules, arith, ℕ, ◌^◌, ◌≤◌, ◌+ℤ◌, ◌≤ℤ◌, get_or, pos, subst, inl, inr}
use Rattle.std.proofs.lemmas.Int.{to_z-of_z}
use Rattle.std.proofs.lemmas.Bool.{cases_lt}
use Rattle.std.proofs.lemmas.Nat.{and_le_l, and_le_r}
use Rattle.wide_num.specs.Sums.{nth}
use mir.Val.{SFits}
use mir.Syntax.{w64}
use Rattle.table_check.proofs.blocks.covers_all.Goals as goal

pub loop-i-preserved : goal.loop-i-preserved
loop-i-preserved c = λ h s lt.
    let line = c.args.line.now in
    let below = c.args.below.now in
    let k = c.loop-i.i in
    let before : 2 ^ 62 ≤ c.loop-i.marks = omega (arith, h, and_le_l c.loop-i.marks c.mark-marks.result) in
    let own_mark : 2 ^ 62 ≤ c.mark-marks.result = omega (arith, h, and_le_r c.loop-i.marks c.mark-marks.result) in
    let worth_fits : SFits w64 c.args.worth = search rules in
    let here_fits : SFits w64 (get_or line k (pos 0)) = search rules in
    let rest_fits : SFits w64 (get_or below k (pos 0)) = search rules in
    let worth_is = to_z-of_z w64 c.args.worth worth_fits in
    let own : (c.args.worth +ℤ nth below k) ≤ℤ nth line k =
    rw (worth_is, to_z-of_z w64 (get_or line k (pos 0)) here_fits, to_z-of_z w64 (get_or below k (pos 0)) rest_fits) at (c.mark-marks.ensures.0 own_mark) in
    rw worth_is
    (elim (cases_lt s k) [
      | inl earlier ↦ rw worth_is at (c.loop-i.invariant before s earlier)
      | inr here ↦ subst (λ (n : ℕ). (c.args.worth +ℤ nth below n) ≤ℤ nth line n) (omega (arith, lt, here)) own
    ])
