use Rattle.std.proofs.Common.{pos, []}
use Rattle.cert_check.specs.Fields.{cert_of}
use Rattle.cert_check.specs.Head.{HoldsBefore}
use Rattle.cert_soundness.specs.Tests.{C2}
use Rattle.cert_check.proofs.choice.choice_test.Given as goal

abbrev pub invariant-loop-place : goal.invariant-loop-place
invariant-loop-place l = HoldsBefore (C2 l.book (cert_of (pos 0) l.claimed l.choice [] [] [])) l.place
