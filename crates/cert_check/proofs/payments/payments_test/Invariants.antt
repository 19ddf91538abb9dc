use Rattle.std.proofs.Common.{[]}
use Rattle.cert_check.specs.Fields.{cert_with}
use Rattle.cert_check.specs.Head.{HoldsBefore}
use Rattle.cert_soundness.specs.Tests.{C5}
use Rattle.cert_check.proofs.payments.payments_test.Given as goal

abbrev pub invariant-loop-j : goal.invariant-loop-j
invariant-loop-j l = HoldsBefore (C5 l.claim.book.now (cert_with l.claim [] l.pay [])) l.j
