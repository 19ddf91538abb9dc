use Rattle.cert_text.proofs.PartSteps.{PartsSoFar}
use Rattle.cert_text.proofs.read.parts.take_parts.Given as goal

abbrev pub invariant-loop-k : goal.invariant-loop-k
invariant-loop-k l = PartsSoFar l.fn.bytes l.fn.place l.fn.shape.bidders l.fn.shape.states l.fn.choice l.k l.next l.parts
