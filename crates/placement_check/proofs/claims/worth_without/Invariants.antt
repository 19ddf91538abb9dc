use Rattle.placement_check.proofs.PartLaws.{IsFrom}
use Rattle.placement_check.proofs.claims.worth_without.Given as goal

abbrev pub invariant-loop-part : goal.invariant-loop-part
invariant-loop-part l = IsFrom l.cert.withouts l.part-index l.j
