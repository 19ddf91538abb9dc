use Rattle.std.proofs.Common.{arith}
use Rattle.auction_model.proofs.ChoiceLaws.{known-length}
use Rattle.slot_places.specs.Board.{menu_of, board_of}
use Rattle.slot_places.proofs.MarketLaws.{placed-number, slots-idle}
use Rattle.slot_places.proofs.slots.Slots.can_follow.Goals as goal

pub bounds-numbers-j : goal.bounds-numbers-j
bounds-numbers-j c =
    let all = known-length (menu_of (board_of c.args.self.now)) 0 c.args.numbers.now c.requires in
    let j = c.is_bidder.ensures.bidder.0 c.if-not-is_bidder.false in
    omega (arith, all, j.0, j.1)

pub may_start-requires-clause-bid : goal.may_start-requires-clause-bid
may_start-requires-clause-bid c =
    let j = c.is_bidder.ensures.bidder.0 c.if-not-is_bidder.false in
    placed-number (board_of c.args.self.now) (slots-idle c.args.self.now) c.args.numbers.now c.args.j c.requires j.0 j.1
