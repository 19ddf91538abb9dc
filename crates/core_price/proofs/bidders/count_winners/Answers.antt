use Rattle.std.proofs.Common.{◌∙◌, ap, arith}
use Rattle.core_laws.specs.Winners.{winners_in}
use Rattle.core_price.proofs.WinnerCount.{count-loser, count-winner, counted-all}
use Rattle.core_price.proofs.bidders.count_winners.Goals as goal
use Rattle.core_price.proofs.bidders.count_winners.Goals.{then-number-ne0, else-number-ne0}

pub loop-number-preserved : goal.loop-number-preserved
loop-number-preserved c =
    let z = c.numbers-numbers.result.now in
    let k = c.loop-number.number-index in
    let was = c.loop-number.invariant in
    elim c.if-number-ne0.branch [
      | then-number-ne0 w ↦ rw w.count-is (record {
        counted = count-winner z k c.loop-number.count c.loop-number-test.true w.if-number-ne0.true was.counted;
        most = omega (arith, was.most);
      })
      | else-number-ne0 w ↦ rw w.count-is (record {
        counted = count-loser z k c.loop-number.count c.loop-number-test.true w.if-number-ne0.false was.counted;
        most = omega (arith, was.most);
      })
    ]

pub returns : goal.returns
returns c = counted-all c.numbers-numbers.result.now c.loop-number.number-index c.loop-number.count c.loop-number-test.false c.loop-number.invariant.counted
    ∙ ap winners_in c.numbers-numbers.ensures
