use Rattle.std.proofs.Common.{rules, arith, ℕ, ◌^◌, ◌<◌, ◌≤ℤ◌, get_or, pos, subst, inl, inr}
use Rattle.std.proofs.lemmas.Int.{to_z-of_z}
use Rattle.std.proofs.lemmas.Bool.{cases_lt}
use Rattle.std.proofs.lemmas.Nat.{le_or_l, le_or_r}
use Rattle.wide_num.specs.Sums.{nth}
use mir.Val.{SFits}
use mir.Syntax.{w64}
use Rattle.table_check.proofs.blocks.none_below.Goals as goal

pub loop-i-preserved : goal.loop-i-preserved
loop-i-preserved c = λ h s lt.
    let line = c.args.line.now in
    let below = c.args.below.now in
    let k = c.loop-i.i in
    let before : c.loop-i.gaps < 2 ^ 63 = omega (arith, h, le_or_l c.loop-i.gaps c.gap-gaps.result) in
    let own_gap : c.gap-gaps.result < 2 ^ 63 = omega (arith, h, le_or_r c.loop-i.gaps c.gap-gaps.result) in
    let here_fits : SFits w64 (get_or line k (pos 0)) = search rules in
    let rest_fits : SFits w64 (get_or below k (pos 0)) = search rules in
    let own : nth below k ≤ℤ nth line k =
    rw (to_z-of_z w64 (get_or line k (pos 0)) here_fits, to_z-of_z w64 (get_or below k (pos 0)) rest_fits) at (c.gap-gaps.ensures own_gap) in
    elim (cases_lt s k) [
      | inl earlier ↦ c.loop-i.invariant before s earlier
      | inr here ↦ subst (λ (n : ℕ). nth below n ≤ℤ nth line n) (omega (arith, lt, here)) own
    ]
