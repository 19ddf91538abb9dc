use Rattle.cert_check.proofs.PartLaws.{IsFrom}
use Rattle.cert_check.proofs.whole.parts.has_part.Given as goal

abbrev pub invariant-loop-part : goal.invariant-loop-part
invariant-loop-part l = IsFrom l.parts l.part-index l.j
