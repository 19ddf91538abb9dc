use Rattle.cert_check.specs.Head.{HoldsBefore}
use Rattle.placement_cert.specs.CertValues.{place_cert_value}
use Rattle.placement_check.specs.PlaceTests.{Asks}
use Rattle.placement_check.proofs.checking.first_failing.Given as goal

abbrev pub invariant-loop-place : goal.invariant-loop-place
invariant-loop-place l = HoldsBefore (Asks l.slots (place_cert_value l.cert) l.test) l.place
