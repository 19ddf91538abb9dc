use Rattle.std.proofs.Common.{◌≤◌, length, sym, ap, arith}
use Rattle.slot_places.specs.Slots.{SlotBid}
use Rattle.slot_places.proofs.ReadLaws.{bidders-read, count-read, bid-at}
use Rattle.slot_places.proofs.slots.Slots.place.Goals as goal

pub returns-clause-start : goal.returns-clause-start
returns-clause-start c =
    let all = bidders-read c.self.inside c.args.self.now c.self.view_is in
    let known : c.args.j ≤ length c.self.inside.bidders.items = omega (arith, all) in
    let count = count-read c.self.inside c.args.self.now c.self.view_is c.args.j known c.requires.bidder.0 c.index-bidder.result.now c.index-bidder.ensures in
    let is = bid-at c.self.inside c.args.self.now c.self.view_is c.args.j known c.requires.bidder.0 c.index-bidder.result.now c.index-bidder.ensures c.args.i
    c.index-place.result.now c.requires.bid.0 (omega arith) c.index-place.ensures in
    ap (λ (b : SlotBid). b.start) (sym is)

pub returns-clause-amount : goal.returns-clause-amount
returns-clause-amount c =
    let all = bidders-read c.self.inside c.args.self.now c.self.view_is in
    let known : c.args.j ≤ length c.self.inside.bidders.items = omega (arith, all) in
    let count = count-read c.self.inside c.args.self.now c.self.view_is c.args.j known c.requires.bidder.0 c.index-bidder.result.now c.index-bidder.ensures in
    let is = bid-at c.self.inside c.args.self.now c.self.view_is c.args.j known c.requires.bidder.0 c.index-bidder.result.now c.index-bidder.ensures c.args.i
    c.index-place.result.now c.requires.bid.0 (omega arith) c.index-place.ensures in
    ap (λ (b : SlotBid). b.amount) (sym is)
