use Rattle.placement_cert.specs.CertValues.{place_cert_value}
use Rattle.placement_check.specs.Verdicts.{HoldsUpTo}
use Rattle.placement_check.proofs.checking.check_places.Given as goal

abbrev pub invariant-loop-test : goal.invariant-loop-test
invariant-loop-test l = HoldsUpTo l.slots (place_cert_value l.cert) l.test
