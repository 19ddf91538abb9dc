use Rattle.outcome.proofs.ReviewLines.{IsSoFar}
use Rattle.outcome.proofs.reviewing.text.reviewed.Given as goal

abbrev pub invariant-loop-k : goal.invariant-loop-k
invariant-loop-k l = IsSoFar l.fn.review.book l.edits l.k l.review.book l.text
