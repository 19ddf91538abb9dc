use Rattle.std.proofs.Common.{sym, subst}
use Rattle.bid_book.specs.Kept.{IsBidBook}
use Rattle.bid_book.proofs.Within.{kept}
use Rattle.bid_book.proofs.Added.{bidder_added, bidder_nets, bidder_betters}
use Rattle.bid_book.proofs.book.BidBook.add_bidder.Goals as goal

pub invariant_of-self-2 : goal.invariant_of-self-2
invariant_of-self-2 c = (
  subst IsBidBook (sym (bidder_added c.self.inside c.args.self.now (record { name = c.args.name; bids = c.new-bids.result }) c.push.new.self c.self.view_is
      c.in_ok-push.ensures.items c.new-bids.ensures.items)) (kept _ c.requires),
  bidder_nets c.self.inside (record { name = c.args.name; bids = c.new-bids.result }) c.push.new.self c.self.invariant.1 c.in_ok-push.ensures.items
      c.new-bids.ensures.items,
  bidder_betters c.self.inside (record { name = c.args.name; bids = c.new-bids.result }) c.push.new.self c.self.invariant.2 c.in_ok-push.ensures.items
      c.new-bids.ensures.items,
)
