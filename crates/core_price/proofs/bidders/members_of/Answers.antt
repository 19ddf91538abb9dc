use Rattle.std.proofs.Common.{◌≡◌, ◌≢◌, ◌∙◌, ap, sym, ℕ, suc, ◌+◌, ◌-◌, ◌<◌, List, length, get_or, drop, arith}
use Rattle.core_laws.specs.Winners.{has_bit}
use Rattle.core_price.proofs.MemberLaws.{loser-made, loser-others, winner-made, winner-others}
use Rattle.core_price.proofs.bidders.members_of.Goals as goal
use Rattle.core_price.proofs.bidders.members_of.Goals.{then-number-ne0+in_ok-add_lowest, else-number-ne0}

pub loop-k-preserved : goal.loop-k-preserved
loop-k-preserved c =
    let z = c.args.winners.now in
    let k = c.loop-k.k in
    let same : c.numbers-number-items.result.now ≡ z = c.numbers-number-items.ensures in
    let inside : k < length z = omega (arith, c.loop-k-test.true, ap (λ (l : List ℕ). length l) same) in
    let number : get_or c.numbers-number-items.result.now k 0 ≡ get_or z k 0 = ap (λ (l : List ℕ). get_or l k 0) same in
    elim c.if-number-ne0.branch [
      | then-number-ne0+in_ok-add_lowest w ↦
          let wins : get_or z k 0 ≢ 0 = λ e. w.if-number-ne0.true (number ∙ e) in
          let some : get_or z k 0 ≡ suc (get_or z k 0 - 1) = omega (arith, wins) in
          record {
            made = winner-made z c.args.bits k c.loop-k.rest c.loop-k.invariant.others c.loop-k.list c.if-number-ne0.list c.loop-k.invariant.made
                (get_or z k 0 - 1) inside some (w.list-is ∙ w.in_ok-add_lowest.ensures);
            others = λ i. ap (λ (r : ℕ). has_bit (drop (k + 1) z) r i) w.rest-is ∙ winner-others z c.args.bits k c.loop-k.rest c.loop-k.invariant.others
                (get_or z k 0 - 1) inside some i;
          }
      | else-number-ne0 w ↦
          let none : get_or z k 0 ≡ 0 = sym number ∙ w.if-number-ne0.false in
          record {
            made = loser-made z c.args.bits k c.loop-k.rest c.loop-k.invariant.others c.loop-k.list c.if-number-ne0.list c.loop-k.invariant.made inside none
                w.list-is;
            others = λ i. ap (λ (r : ℕ). has_bit (drop (k + 1) z) r i) w.rest-is ∙ loser-others z c.args.bits k c.loop-k.rest c.loop-k.invariant.others inside
                none i;
          }
    ]
