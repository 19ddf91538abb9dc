-- The list loop: a loser is passed over.
use Rattle.std.proofs.Common.{◌≡◌, ◌∙◌, ap, length, rules}
use Rattle.core_price.proofs.WeightLaws.{more-loser, more-winner}
use Rattle.core_price.proofs.weights.winner_weights.Goals as goal
use Rattle.core_price.proofs.weights.winner_weights.Goals.{then-numbers-k-ne0+in_ok-push, else-numbers-k-ne0}

pub loop-k-preserved : goal.loop-k-preserved
loop-k-preserved c =
    let z = c.numbers-numbers.result.now in
    let ws = c.args.weights.now in
    let long : length ws ≡ length z = c.requires ∙ ap length (search rules) in
    let list = c.loop-k.list.items in
    elim c.if-numbers-k-ne0.branch [
      | then-numbers-k-ne0+in_ok-push b ↦ rw (b.list-is, b.in_ok-push.ensures.items)
          (more-winner z ws list c.loop-k.k long c.loop-k-test.true b.if-numbers-k-ne0.true c.loop-k.invariant)
      | else-numbers-k-ne0 b ↦ rw b.list-is (more-loser z ws list c.loop-k.k long c.loop-k-test.true (search rules) c.loop-k.invariant)
    ]
