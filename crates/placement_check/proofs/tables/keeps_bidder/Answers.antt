use Rattle.std.proofs.Common.{◌^◌, length, arith, rules}
use Rattle.slot_places.specs.Board.{board_without}
use Rattle.slot_places.proofs.SetBits.{joined-small}
use Rattle.placement_check.specs.OfferRules.{worth_with}
use Rattle.placement_check.proofs.SetTests.{always, bids-next, inside-keeps}
use Rattle.placement_check.proofs.SetTables.{sets-width}
use Rattle.placement_check.proofs.tables.keeps_bidder.Goals as goal

pub returns-then-is_in : goal.returns-then-is_in
returns-then-is_in c =
    let o = c.args.offers.now in
    always (inside-keeps (board_without o.slots.now o.skip) (worth_with o.slots.now o.den o.gains.now) c.args.table.now c.args.set c.args.j _ (search rules))

pub entry-requires-clause-place : goal.entry-requires-clause-place
entry-requires-clause-place c =
    let n = length c.args.offers.now.slots.now.bidders in
    let width = sets-width (2 ^ n) c.args.table.now c.requires.shape in
    let small = joined-small n c.args.set c.args.j c.requires.set c.requires.bidder.0 c.requires.bidder.1 (search rules) in
    omega (arith, width, small, c.weight.ensures)

pub loop-i-preserved : goal.loop-i-preserved
loop-i-preserved c =
    let o = c.args.offers.now in
    bids-next (board_without o.slots.now o.skip) (worth_with o.slots.now o.den o.gains.now) c.args.table.now c.args.set c.args.j c.loop-i.i c.loop-i.invariant
    (c.keeps_bid.ensures.0 c.if-not-keeps_bid.false)
