use Rattle.std.proofs.Common.{None, ◌-◌, inr, refl, sym, subst, arith}
use Rattle.std.proofs.lemmas.Bool.{false≢true, iff_false}
use Rattle.auction_model.specs.Prices.{weight_of}
use Rattle.stream_check.proofs.RowTests.{row-some, row-inside, row-totals, row-before, row-order, row-fails, more-shows, last-holds, last-totals, rows-done}
use Rattle.stream_check.specs.Moments.{Shows}
use Rattle.stream_check.proofs.judging.rows.row_line.Goals as goal

pub returns-then-not-keeps_row : goal.returns-then-not-keeps_row
returns-then-not-keeps_row c = subst (Shows c.args.at.now) (sym c.of.ensures) (λ cert next is follows. (
  let at = c.args.at.now in
      row-fails at.book.now (weight_of at.weights.now) cert c.args.left c.args.at.now.totals.now.count next None
      (record { test = 6; place = c.args.at.now.totals.now.count }) (row-some c.args.at.now cert is c.args.left c.requires.due)
      (row-inside c.args.at.now cert is c.args.left c.requires.due) refl refl
      (row-totals c.args.at.now cert is c.args.left c.requires.due).count (row-before c.args.at.now cert is c.args.left c.requires.due)
      (iff_false (c.keeps_row.ensures cert is) c.if-not-keeps_row.true),
  λ seen. absurd (false≢true seen),
))

pub returns-then-left-ne1 : goal.returns-then-left-ne1
returns-then-left-ne1 c = subst (Shows c.args.at.now) (sym c.of-then-left-ne1.ensures) (λ cert next is follows. (
  more-shows c.args.at.now cert is c.args.left c.requires.due next follows c.if-left-ne1.true
      ((c.keeps_row.ensures cert is).0 c.if-not-keeps_row.false),
  λ seen. absurd (false≢true seen),
))

pub last_tests-requires-clause-rows : goal.last_tests-requires-clause-rows
last_tests-requires-clause-rows c = record {
  line = inr (c.args.left, c.requires.due);
  totals = λ cert is. last-totals c.args.at.now cert is c.args.left c.requires.due c.if-left-ne1.false;
}

pub returns : goal.returns
returns c = subst (Shows c.args.at.now) (sym c.of-2.ensures) (λ cert next is follows. (
  let at = c.args.at.now in
      rows-done at.book.now (weight_of at.weights.now) cert (c.args.left - 1) next c.last_tests.result
      (row-order c.args.at.now cert is c.args.left c.requires.due next follows) (omega (arith, c.if-left-ne1.false))
      (c.last_tests.ensures cert is (last-holds c.args.at.now cert is c.args.left c.requires.due c.if-left-ne1.false
      ((c.keeps_row.ensures cert is).0 c.if-not-keeps_row.false))),
  λ seen. absurd (false≢true seen),
))
