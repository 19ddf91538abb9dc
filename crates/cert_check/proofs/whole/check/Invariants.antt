use Rattle.auction_model.specs.Prices.{weight_of}
use Rattle.cert_text.specs.CertValues.{cert_value}
use Rattle.cert_check.specs.Head.{HoldsUpTo}
use Rattle.cert_check.proofs.whole.check.Given as goal

abbrev pub invariant-loop-test : goal.invariant-loop-test
invariant-loop-test l = HoldsUpTo l.book (weight_of l.weights) (cert_value l.cert) l.test
