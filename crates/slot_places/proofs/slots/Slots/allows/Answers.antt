use Rattle.std.proofs.Common.{◌≡◌, ◌∙◌, ◌+◌, ◌^◌, ◌<◌, sym, arith, subst, length, get_or, List, ℕ, true}
use Rattle.std.proofs.lemmas.Bool.{false≢true}
use Rattle.slot_places.specs.Board.{board_of, is_known}
use Rattle.slot_places.specs.SetTable.{holds}
use Rattle.slot_places.specs.Steps.{CanFollow}
use Rattle.slot_places.proofs.SetBits.{power-most}
use Rattle.slot_places.proofs.OrderSteps.{tests-begin, tests-more, tests-fail, tests-end}
use Rattle.slot_places.proofs.slots.Slots.allows.Goals as goal

pub returns-then-not-can_follow : goal.returns-then-not-can_follow
returns-then-not-can_follow c =
    let slots = c.args.self.now in
    let order = c.args.order.now in
    let i = c.loop-j.j-index in
    tests-fail slots c.args.choice.now order i c.loop-j.set c.loop-j-test.true
    (λ f. false≢true (sym c.if-not-can_follow.true ∙ c.can_follow.ensures.1 (subst
    (λ (l : List ℕ). CanFollow (board_of slots) l (holds c.loop-j.set) (get_or order i 0)) (sym c.numbers-numbers.ensures) f)))
    c.loop-j.invariant

pub overflow_add-set : goal.overflow_add-set
overflow_add-set c =
    let slots = c.args.self.now in
    let order = c.args.order.now in
    let i = c.loop-j.j-index in
    let f : CanFollow (board_of slots) c.args.choice.now (holds c.loop-j.set) (get_or order i 0) = subst
    (λ (l : List ℕ). CanFollow (board_of slots) l (holds c.loop-j.set) (get_or order i 0)) c.numbers-numbers.ensures
    (c.can_follow.ensures.0 c.if-not-can_follow.false) in
    let next = tests-more slots c.args.choice.now order i c.loop-j.set c.weight-set.result c.loop-j-test.true c.weight-set.ensures f c.loop-j.invariant in
    let low : c.loop-j.set + c.weight-set.result < 2 ^ length slots.bidders = next.small in
    let most = power-most (length slots.bidders) (let few = c.bidders.ensures.kept.few in omega (arith, few)) in
    omega (arith, low, most)

pub loop-j-init : goal.loop-j-init
loop-j-init c = tests-begin c.args.self.now c.args.choice.now c.args.order.now

pub loop-j-preserved : goal.loop-j-preserved
loop-j-preserved c =
    let slots = c.args.self.now in
    let order = c.args.order.now in
    let i = c.loop-j.j-index in
    let f : CanFollow (board_of slots) c.args.choice.now (holds c.loop-j.set) (get_or order i 0) = subst
    (λ (l : List ℕ). CanFollow (board_of slots) l (holds c.loop-j.set) (get_or order i 0)) c.numbers-numbers.ensures
    (c.can_follow.ensures.0 c.if-not-can_follow.false) in
    tests-more slots c.args.choice.now order i c.loop-j.set c.weight-set.result c.loop-j-test.true c.weight-set.ensures f c.loop-j.invariant

pub returns : goal.returns
returns c =
    let slots = c.args.self.now in
    let known : is_known (board_of slots) c.args.choice.now ≡ true = subst (λ (l : List ℕ). is_known (board_of slots) l ≡ true) c.numbers-numbers.ensures
    (sym c.is_known.ensures ∙ c.if-not-is_known.false) in
    tests-end slots c.args.choice.now c.args.order.now c.loop-j.j-index c.loop-j.set (omega arith) (c.if-order-bidders.false ∙ c.bidders.ensures.bidders)
    known c.loop-j.invariant
