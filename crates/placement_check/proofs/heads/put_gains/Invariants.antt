use Rattle.placement_cert.specs.CertValues.{place_cert_value}
use Rattle.cert_check.proofs.Written.{AreWritten}
use Rattle.placement_check.specs.Shown.{gain_in}
use Rattle.placement_check.proofs.heads.put_gains.Given as goal

abbrev pub invariant-loop-k : goal.invariant-loop-k
invariant-loop-k l = AreWritten (gain_in l.slots (place_cert_value l.cert)) l.gains l.k
