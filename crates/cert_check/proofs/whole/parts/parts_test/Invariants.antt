use Rattle.std.proofs.Common.{[], map}
use Rattle.cert_text.specs.Parts.{without_value}
use Rattle.cert_check.specs.Fields.{cert_with}
use Rattle.cert_check.proofs.PartLaws.{PartsTo}
use Rattle.cert_check.proofs.whole.parts.parts_test.Given as goal

abbrev pub invariant-loop-k : goal.invariant-loop-k
invariant-loop-k l = PartsTo l.claim.book.now (cert_with l.claim (map without_value l.parts) [] []) l.k
