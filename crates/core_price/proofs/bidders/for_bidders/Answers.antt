-- The list loop: a loser gets 0, a winner the next number.
use Rattle.std.proofs.Common.{◌≡◌, ◌<◌, length, rules, to_z, of_z}
use Rattle.std.proofs.lemmas.Int.{to_z-of_z}
use Rattle.std.specs.Int.{w128}
use Rattle.wide_num.specs.Sums.{nth}
use Rattle.core_price.proofs.Spreading.{spread-inside, spread-loser, spread-winner}
use Rattle.core_price.proofs.bidders.for_bidders.Goals as goal
use Rattle.core_price.proofs.bidders.for_bidders.Goals.{then-number-eq0+in_ok-push, else-number-eq0+in_ok-push-2}

pub loop-number-preserved : goal.loop-number-preserved
loop-number-preserved c =
    let z = c.numbers-numbers.result.now in
    let at = c.args.at.now in
    let list = c.loop-number.list.items in
    let k = c.loop-number.number-index in
    let w = c.loop-number.winner in
    elim c.if-number-eq0.branch [
      | then-number-eq0+in_ok-push b ↦ rw (b.list-is, b.winner-is, b.in_ok-push.ensures.items)
          (spread-loser z at list k w c.loop-number.invariant c.loop-number-test.true b.if-number-eq0.true)
      | else-number-eq0+in_ok-push-2 b ↦
          let inside : w < length at = spread-inside z at list k w c.loop-number.invariant c.loop-number-test.true b.if-number-eq0.false in
          let d : to_z w128 (of_z w128 (nth at w)) ≡ nth at w = to_z-of_z w128 (nth at w) (search rules) in
          rw (b.list-is, b.winner-is, b.in_ok-push-2.ensures.items, d) (spread-winner z at list k w c.loop-number.invariant c.loop-number-test.true
          b.if-number-eq0.false)
    ]
