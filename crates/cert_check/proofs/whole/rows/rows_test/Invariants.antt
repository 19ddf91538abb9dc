use Rattle.std.proofs.Common.{◌+◌, [], map}
use Rattle.cert_check.specs.Fields.{cert_with}
use Rattle.cert_check.specs.Head.{HoldsBefore}
use Rattle.cert_soundness.specs.Tests.{C6}
use Rattle.cert_text.specs.Parts.{row_value}
use Rattle.cert_check.proofs.whole.rows.rows_test.Given as goal

abbrev pub invariant-loop-r : goal.invariant-loop-r
invariant-loop-r l = HoldsBefore (C6 l.claim.book.now (cert_with l.claim [] l.pay (map row_value l.rows))) (l.r + 1)
