use Rattle.cert_text.proofs.PartsFound.{IsPast}
use Rattle.cert_text.proofs.certificate.Certificate.part.Given as goal

abbrev pub invariant-loop-part : goal.invariant-loop-part
invariant-loop-part l = IsPast l.self.withouts l.part-index l.j
