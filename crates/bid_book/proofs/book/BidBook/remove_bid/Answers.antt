use Rattle.std.proofs.Common.{◌≤◌, ◌-◌, length, sym, subst, arith}
use Rattle.std.specs.List.{remove}
use Rattle.auction_model.specs.Book.{bids_of}
use Rattle.bid_book.specs.Fields.{HasNet}
use Rattle.bid_book.specs.Kept.{IsBidBook}
use Rattle.bid_book.proofs.BookReads.{bidders-read}
use Rattle.bid_book.proofs.Changed.{own_bids, own_nets, bids_are, changed_nets, changed_betters}
use Rattle.bid_book.proofs.PutLaws.{less-within}
use Rattle.bid_book.proofs.SettleLaws.{All-remove, nets-same, taken-list}
use Rattle.bid_book.proofs.Within.{kept}
use Rattle.bid_book.proofs.book.BidBook.remove_bid.Goals as goal

pub invariant_of-self : goal.invariant_of-self
invariant_of-self c =
    let b = c.self.inside in
    let j = c.args.j in
    let known : j ≤ length b.bidders.items = omega (arith, bidders-read b c.args.self.now c.self.view_is) in
    let old = c.index_mut-bidder.result.now in
    let read = c.index_mut-bidder.ensures.value in
    let own = own_bids b j c.requires.bidder.0 known old read c.args.self.now c.self.view_is in
    let list = taken-list (bids_of c.args.self.now j) old.bids.items c.remove_entry.new.bids.items (c.args.i - 1) own c.remove_entry.ensures in
    let rules = (subst IsBidBook c.self.view_is c.self.invariant.0).rules in (
      subst IsBidBook (sym (bids_are b j c.requires.bidder.0 known old read c.remove_entry.new.bids c.args.self.now _ c.self.view_is list))
          (kept _ (less-within c.args.self.now j c.args.i rules c.requires.bidder.0 c.requires.bidder.1 c.requires.bid.0 c.requires.bid.1)),
      changed_nets b j c.requires.bidder.0 known old read c.remove_entry.new.bids c.self.invariant.1
          (nets-same b.reserves.items (remove old.bids.items (c.args.i - 1)) c.remove_entry.new.bids.items c.remove_entry.ensures.same
          (All-remove (HasNet b.reserves.items) old.bids.items (c.args.i - 1) (own_nets b j c.requires.bidder.0 known old read c.self.invariant.1))),
      changed_betters b j c.requires.bidder.0 known old read c.remove_entry.new.bids c.self.invariant.2 c.remove_entry.ensures.betters,
    )

pub returns : goal.returns
returns c =
    let b = c.self.inside in
    let j = c.args.j in
    let known : j ≤ length b.bidders.items = omega (arith, bidders-read b c.args.self.now c.self.view_is) in
    let old = c.index_mut-bidder.result.now in
    let read = c.index_mut-bidder.ensures.value in
    let own = own_bids b j c.requires.bidder.0 known old read c.args.self.now c.self.view_is in
    let list = taken-list (bids_of c.args.self.now j) old.bids.items c.remove_entry.new.bids.items (c.args.i - 1) own c.remove_entry.ensures in
    bids_are b j c.requires.bidder.0 known old read c.remove_entry.new.bids c.args.self.now _ c.self.view_is list
