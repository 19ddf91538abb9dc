use Rattle.placement_cert.proofs.PartSteps.{PartsSoFar}
use Rattle.placement_cert.proofs.read.parts.take_parts.Given as goal

abbrev pub invariant-loop-k : goal.invariant-loop-k
invariant-loop-k l = PartsSoFar l.fn.bytes l.fn.place l.fn.bidders l.fn.choice l.k l.next l.parts
