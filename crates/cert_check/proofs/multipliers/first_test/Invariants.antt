use Rattle.std.proofs.Common.{List, []}
use Rattle.cert_grammar.specs.Certificate.{RowValue}
use Rattle.cert_soundness.specs.Tests.{C7, bidders_of}
use Rattle.cert_check.specs.Columns.{AreFirsts, AreFirstSums}
use Rattle.cert_check.specs.Fields.{cert_with}
use Rattle.cert_check.specs.Head.{HoldsBefore}
use Rattle.cert_check.proofs.multipliers.first_test.Given as goal

abbrev pub invariant-loop-place : goal.invariant-loop-place
invariant-loop-place l = (rows : List RowValue) → AreFirsts rows l.first.numbers.now → AreFirstSums (bidders_of l.claim.book.now) rows l.first.sums.now
    → HoldsBefore (C7 l.claim.book.now (cert_with l.claim [] [] rows)) l.place
