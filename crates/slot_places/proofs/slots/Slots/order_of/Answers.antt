use Rattle.std.proofs.Common.{◌≡◌, ◌+◌, ◌-◌, arith, subst, length, List, ℕ}
use Rattle.slot_places.specs.Board.{board_of}
use Rattle.slot_places.specs.SetTable.{holds}
use Rattle.slot_places.specs.Steps.{IsFirstNext}
use Rattle.slot_places.proofs.OrderSteps.{so-more}
use Rattle.slot_places.proofs.slots.Slots.order_of.Goals as goal

pub loop-k-preserved : goal.loop-k-preserved
loop-k-preserved c =
    let slots = c.args.self.now in
    let n = length slots.bidders in
    let left = c.bidders-count.result - 1 - c.loop-k.k in
    let count : c.bidders-count.result ≡ n = c.bidders-count.ensures.bidders in
    let next : IsFirstNext (board_of slots) c.args.choice.now left (holds c.loop-k.set) c.in-Some.j =
    subst (λ (l : List ℕ). IsFirstNext (board_of slots) l left (holds c.loop-k.set) c.in-Some.j) c.numbers-numbers.ensures c.in-Some.ensures.some in
    so-more slots c.args.choice.now c.loop-k.order c.push.new.self (n - c.loop-k.k) left (n - (c.loop-k.k + 1)) c.loop-k.set c.in-Some.j c.weight-set.result
    (omega (arith, count)) (omega (arith, count)) c.in_ok-push.ensures.pushed c.weight-set.ensures c.loop-k.invariant next
