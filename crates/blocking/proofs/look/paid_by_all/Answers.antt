use Rattle.std.proofs.Common.{pos, ◌+◌, arith, sym, ◌∙◌, to_z, slice_index_or}
use mir.Syntax.{w128}
use Rattle.auction_model.specs.Lowered.{of_bidder}
use Rattle.auction_model.specs.Prices.{everyone, sum_over}
use Rattle.blocking.proofs.Parts.{over-step, next-fits, next-is}
use Rattle.blocking.proofs.look.paid_by_all.Goals as goal

pub overflow_add-sum : goal.overflow_add-sum
overflow_add-sum c =
    let n = c.loop-paid.paid-index in
    let at = c.args.at.now in
    next-fits (to_z w128 c.loop-paid.sum-bits) (sum_over everyone (of_bidder at) n) (slice_index_or at n (pos 0)) c.loop-paid.invariant
    (c.requires.small n (omega arith)) (rw (over-step everyone at n) at (c.requires.small (n + 1) (omega arith)))

pub loop-paid-preserved : goal.loop-paid-preserved
loop-paid-preserved c =
    let n = c.loop-paid.paid-index in
    let at = c.args.at.now in
    next-is (to_z w128 c.loop-paid.sum-bits) (sum_over everyone (of_bidder at) n) (slice_index_or at n (pos 0)) c.loop-paid.invariant
    (c.requires.small n (omega arith)) (rw (over-step everyone at n) at (c.requires.small (n + 1) (omega arith))) ∙ sym (over-step everyone at n)
