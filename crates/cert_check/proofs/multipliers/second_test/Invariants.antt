use Rattle.std.proofs.Common.{List}
use Rattle.auction_model.specs.Prices.{weight_of}
use Rattle.cert_grammar.specs.Certificate.{RowValue, WithoutValue}
use Rattle.cert_soundness.specs.Tests.{C8, bidders_of}
use Rattle.cert_check.specs.Columns.{AreFirsts, AreSeconds, AreSecondSums}
use Rattle.cert_check.specs.Fields.{cert_with, AreValuesWithout}
use Rattle.cert_check.specs.Head.{HoldsBefore}
use Rattle.cert_check.proofs.multipliers.second_test.Given as goal

abbrev pub invariant-loop-place : goal.invariant-loop-place
invariant-loop-place l = (withouts : List WithoutValue) (rows : List RowValue) → AreValuesWithout l.claim.book.now l.claim.choice.now withouts l.values
    → AreFirsts rows l.firsts → AreSeconds rows l.second.numbers.now → AreSecondSums (bidders_of l.claim.book.now) rows l.second.sums.now
    → HoldsBefore (C8 l.claim.book.now (weight_of l.weights) (cert_with l.claim withouts l.pay rows)) l.place
