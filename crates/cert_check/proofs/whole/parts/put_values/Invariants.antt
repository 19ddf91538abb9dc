use Rattle.std.proofs.Common.{map}
use Rattle.cert_text.specs.Parts.{without_value}
use Rattle.cert_check.specs.Fields.{worth_without}
use Rattle.cert_check.proofs.Written.{AreWritten}
use Rattle.cert_check.proofs.whole.parts.put_values.Given as goal

abbrev pub invariant-loop-k : goal.invariant-loop-k
invariant-loop-k l = AreWritten (worth_without l.claim.book.now l.claim.choice.now (map without_value l.parts)) l.values l.k
