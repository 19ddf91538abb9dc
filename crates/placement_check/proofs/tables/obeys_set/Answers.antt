use Rattle.std.proofs.Common.{◌≡◌, true, arith, rules}
use Rattle.std.proofs.lemmas.Bool.{iff_false}
use Rattle.slot_places.specs.Board.{board_without}
use Rattle.placement_check.specs.OfferRules.{worth_with}
use Rattle.placement_check.proofs.SetTests.{always, never, keeps-next, obeys-all, obeys-one}
use Rattle.placement_check.proofs.tables.obeys_set.Goals as goal

pub returns-then-not-is_last_kept : goal.returns-then-not-is_last_kept
returns-then-not-is_last_kept c = never (λ o. iff_false c.is_last_kept.ensures c.if-not-is_last_kept.true o.last)

pub loop-j-init : goal.loop-j-init
loop-j-init c = λ j some low. absurd (omega (arith, some, low))

pub loop-j-preserved : goal.loop-j-preserved
loop-j-preserved c =
    let o = c.args.offers.now in
    let b = board_without o.slots.now o.skip in
    let passed : c.keeps_bidder.result ≡ true = search rules in
    keeps-next b (worth_with o.slots.now o.den o.gains.now) c.args.table.now c.args.set c.loop-j.j c.loop-j.invariant (c.keeps_bidder.ensures.0 passed)

pub returns-then-not-keeps_bidder : goal.returns-then-not-keeps_bidder
returns-then-not-keeps_bidder c =
    let o = c.args.offers.now in
    let b = board_without o.slots.now o.skip in
    never (λ h. iff_false c.keeps_bidder.ensures c.if-not-keeps_bidder.true (obeys-one b (worth_with o.slots.now o.den o.gains.now) c.args.table.now
    c.args.set c.loop-j.j (omega arith) (omega (arith, c.bidders-bidders.ensures.bidders)) h))

pub returns : goal.returns
returns c =
    let o = c.args.offers.now in
    let b = board_without o.slots.now o.skip in
    let kept : c.is_last_kept.result ≡ true = search rules in
    always (obeys-all b (worth_with o.slots.now o.den o.gains.now) c.args.table.now c.args.set c.loop-j.j (omega (arith, c.bidders-bidders.ensures.bidders))
    (c.is_last_kept.ensures.0 kept) c.loop-j.invariant)
