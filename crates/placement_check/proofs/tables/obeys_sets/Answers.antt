use Rattle.std.proofs.Common.{◌≡◌, ◌≤◌, ◌^◌, ℕ, length, ap, true, arith, rules}
use Rattle.std.proofs.lemmas.Bool.{iff_false}
use Rattle.slot_places.specs.Board.{board_without}
use Rattle.slot_places.proofs.SetBits.{power-most}
use Rattle.placement_check.specs.OfferRules.{worth_with}
use Rattle.placement_check.proofs.SetTests.{always, never, sets-next}
use Rattle.placement_check.proofs.tables.obeys_sets.Goals as goal

pub loop-set-init : goal.loop-set-init
loop-set-init c = λ bits low. absurd (omega (arith, low))

pub loop-set-preserved : goal.loop-set-preserved
loop-set-preserved c =
    let o = c.args.offers.now in
    let passed : c.obeys_set.result ≡ true = search rules in
    sets-next (board_without o.slots.now o.skip) (worth_with o.slots.now o.den o.gains.now) c.args.table.now c.loop-set.set c.loop-set.invariant
    (c.obeys_set.ensures.0 passed)

pub returns-then-not-obeys_set : goal.returns-then-not-obeys_set
returns-then-not-obeys_set c =
    let n = length c.args.offers.now.slots.now.bidders in
    let few : 2 ^ length c.args.offers.now.slots.now.bidders ≤ 64 = power-most n (omega (arith, c.bidders-sets.ensures.bidders, c.bidders-sets.ensures.most)) in
    let same : 2 ^ c.bidders-sets.result ≡ 2 ^ length c.args.offers.now.slots.now.bidders = ap (λ (k : ℕ). 2 ^ k) c.bidders-sets.ensures.bidders in
    never (λ h. iff_false c.obeys_set.ensures c.if-not-obeys_set.true (h c.loop-set.set (omega (arith, few, same))))

pub obeys_set-requires-clause-set : goal.obeys_set-requires-clause-set
obeys_set-requires-clause-set c =
    let n = length c.args.offers.now.slots.now.bidders in
    let few : 2 ^ length c.args.offers.now.slots.now.bidders ≤ 64 = power-most n (omega (arith, c.bidders-sets.ensures.bidders, c.bidders-sets.ensures.most)) in
    let same : 2 ^ c.bidders-sets.result ≡ 2 ^ length c.args.offers.now.slots.now.bidders = ap (λ (k : ℕ). 2 ^ k) c.bidders-sets.ensures.bidders in
    omega (arith, few, same)

pub returns : goal.returns
returns c =
    let n = length c.args.offers.now.slots.now.bidders in
    let few : 2 ^ length c.args.offers.now.slots.now.bidders ≤ 64 = power-most n (omega (arith, c.bidders-sets.ensures.bidders, c.bidders-sets.ensures.most)) in
    let same : 2 ^ c.bidders-sets.result ≡ 2 ^ length c.args.offers.now.slots.now.bidders = ap (λ (k : ℕ). 2 ^ k) c.bidders-sets.ensures.bidders in
    always (λ bits low. c.loop-set.invariant bits (omega (arith, low, few, same)))
