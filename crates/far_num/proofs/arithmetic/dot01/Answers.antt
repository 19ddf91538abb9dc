use Rattle.far_num.proofs.MembersLaws.{passed_member, passed_other}
use Rattle.far_num.proofs.arithmetic.dot01.Goals as goal
use Rattle.far_num.proofs.arithmetic.dot01.Goals.{else-left-eq1, then-left-eq1+in_ok-sum}
use Rattle.std.proofs.Common.{add-one, arith}
use Rattle.std.proofs.lemmas.List.{get_or_default}

pub loop-entry-preserved : goal.loop-entry-preserved
loop-entry-preserved c =
    let xs = c.args.list.now in
    let n = c.loop-entry.entry-index in
    elim c.if-left-eq1.branch [
      | then-left-eq1+in_ok-sum w ↦
          rw (add-one, w.sum-is)
          (passed_member c.args.members xs n c.loop-entry.sum w.in_ok-sum.sum _ c.loop-entry.left c.loop-entry.invariant w.if-left-eq1.true
          (get_or_default xs n _ _ c.loop-entry-test.true) w.in_ok-sum.ensures.0 w.in_ok-sum.ensures.1)
      | else-left-eq1 w ↦ rw (add-one, w.sum-is) (passed_other c.args.members xs n c.loop-entry.sum c.loop-entry.left c.loop-entry.invariant (omega arith))
    ]
