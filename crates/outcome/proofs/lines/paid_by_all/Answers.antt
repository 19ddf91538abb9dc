use Rattle.std.proofs.Common.{length, to_z, arith, pos, ◌≤ℤ◌, subst, sym}
use Rattle.std.specs.Int.{w128}
use Rattle.wide_num.specs.Sums.{nth}
use Rattle.projection_laws.proofs.Sums.{total-nonneg}
use Rattle.outcome.proofs.Totals.{next-fits, next-is}
use Rattle.outcome.proofs.lines.paid_by_all.Goals as goal

pub overflow_add-sum : goal.overflow_add-sum
overflow_add-sum c =
    next-fits (length c.args.at.now) c.loop-paid.paid-index (nth c.args.at.now) (to_z w128 c.loop-paid.sum-bits) c.loop-paid-test.true c.requires.not_negative
    c.requires.range c.loop-paid.invariant

pub loop-paid-preserved : goal.loop-paid-preserved
loop-paid-preserved c =
    next-is (length c.args.at.now) c.loop-paid.paid-index (nth c.args.at.now) (to_z w128 c.loop-paid.sum-bits) c.loop-paid-test.true c.requires.not_negative
    c.requires.range c.loop-paid.invariant

pub returns-clause-sign : goal.returns-clause-sign
returns-clause-sign c =
    subst (λ x. pos 0 ≤ℤ x) (sym c.loop-paid.invariant) (total-nonneg c.loop-paid.paid-index (nth c.args.at.now)
    (λ i l. c.requires.not_negative i (omega arith)))
