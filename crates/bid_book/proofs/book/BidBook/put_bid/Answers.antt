use Rattle.std.proofs.Common.{◌≡◌, ◌≤◌, ◌-◌, ℕ, List, get_or, length, map, sym, ap, subst, ◌∙◌, arith}
use Rattle.std.proofs.lemmas.Bool.{false≢true}
use Rattle.std.proofs.lemmas.List.{length-map}
use Rattle.auction_model.specs.Book.{Book, BookBid, bids_of, no_bid}
use Rattle.bid_book.specs.Changes.{InPackageOrder}
use Rattle.bid_book.specs.Fields.{bid_value, HasNet}
use Rattle.bid_book.specs.Kept.{IsBidBook}
use Rattle.bid_book.specs.Lists.{bid_of}
use Rattle.bid_book.proofs.BookReads.{bidders-read}
use Rattle.bid_book.proofs.Changed.{own_bids, own_categories, own_nets, bids_are, bids_same, changed_nets, same_nets, changed_betters, on-err, same_betters}
use Rattle.bid_book.proofs.PackageOrder.{lots_at}
use Rattle.bid_book.proofs.PutLaws.{book-order, put-sound}
use Rattle.bid_book.proofs.SettleLaws.{put-list}
use Rattle.bid_book.proofs.Within.{kept}
use Rattle.bid_book.proofs.book.BidBook.put_bid.Goals as goal

pub with_net-entry-requires-clause-count : goal.with_net-entry-requires-clause-count
with_net-entry-requires-clause-count c =
    let own = put-sound c.args.self.now c.args.j (bid_of c.args.bid) c.requires.bidder.0 c.requires.bidder.1 c.requires.kept in
    ap (λ (l : List ℕ). length l) c.deref.ensures.value ∙ ap (λ (b : Book). length b.reserves) c.self.view_is ∙ c.requires.kept.form.reserves.count
    ∙ sym own.categories

pub put_entry-requires-clause-categories : goal.put_entry-requires-clause-categories
put_entry-requires-clause-categories c = λ k d inside.
    let known : c.args.j ≤ length c.self.inside.bidders.items = omega (arith, bidders-read c.self.inside c.args.self.now c.self.view_is) in
    let own = put-sound c.args.self.now c.args.j (bid_of c.args.bid) c.requires.bidder.0 c.requires.bidder.1 c.requires.kept in
    own_categories c.self.inside c.args.j c.requires.bidder.0 known c.index_mut-bidder.result.now c.index_mut-bidder.ensures.value c.self.invariant.0 k d inside
    ∙ ap (λ (b : Book). length b.supply) c.self.view_is ∙ sym own.categories ∙ ap (λ (b : BookBid). length b.lots) (sym c.with_net-entry.ensures.bid)

pub put_entry-requires-clause-order : goal.put_entry-requires-clause-order
put_entry-requires-clause-order c =
    let known : c.args.j ≤ length c.self.inside.bidders.items = omega (arith, bidders-read c.self.inside c.args.self.now c.self.view_is) in
    let rules = (subst IsBidBook c.self.view_is c.self.invariant.0).rules in
    let is : bids_of c.args.self.now c.args.j ≡ map bid_value c.index_mut-bidder.result.now.bids.items =
    own_bids c.self.inside c.args.j c.requires.bidder.0 known c.index_mut-bidder.result.now c.index_mut-bidder.ensures.value c.args.self.now c.self.view_is in
    subst InPackageOrder is (book-order c.args.self.now c.args.j rules c.requires.bidder.0 c.requires.bidder.1)

pub invariant_of-self : goal.invariant_of-self
invariant_of-self c =
    let known : c.args.j ≤ length c.self.inside.bidders.items = omega (arith, bidders-read c.self.inside c.args.self.now c.self.view_is) in
    let same = c.in_err-put_entry.ensures.unchanged in (
      subst IsBidBook (sym (bids_same c.self.inside c.args.j c.requires.bidder.0 known c.index_mut-bidder.result.now c.index_mut-bidder.ensures.value
          c.put_entry.new.bids same)) c.self.invariant.0,
      same_nets c.self.inside c.args.j c.requires.bidder.0 known c.index_mut-bidder.result.now c.index_mut-bidder.ensures.value c.put_entry.new.bids same
          c.self.invariant.1,
      same_betters c.self.inside c.args.j c.requires.bidder.0 known c.index_mut-bidder.result.now c.index_mut-bidder.ensures.value c.put_entry.new.bids same
          c.self.invariant.2,
    )

pub invariant_of-self-2 : goal.invariant_of-self-2
invariant_of-self-2 c =
    let b = c.self.inside in
    let j = c.args.j in
    let known : j ≤ length b.bidders.items = omega (arith, bidders-read b c.args.self.now c.self.view_is) in
    let old = c.index_mut-bidder.result.now in
    let read = c.index_mut-bidder.ensures.value in
    let put = c.in_ok-put_entry.ensures.put in
    let own = own_bids b j c.requires.bidder.0 known old read c.args.self.now c.self.view_is in
    let list = put-list (bids_of c.args.self.now j) old.bids.items c.put_entry.new.bids.items c.with_net-entry.result
    (bid_of c.args.bid) own c.with_net-entry.ensures.bid put in
    let net : HasNet b.reserves.items c.with_net-entry.result = subst (λ (r : List ℕ). HasNet r c.with_net-entry.result) c.deref.ensures.value
    c.with_net-entry.ensures.net in (
      subst IsBidBook (sym (bids_are b j c.requires.bidder.0 known old read c.put_entry.new.bids c.args.self.now _ c.self.view_is list))
          (kept _ c.requires.kept),
      changed_nets b j c.requires.bidder.0 known old read c.put_entry.new.bids c.self.invariant.1
          (put.nets b.reserves.items (own_nets b j c.requires.bidder.0 known old read c.self.invariant.1) net),
      changed_betters b j c.requires.bidder.0 known old read c.put_entry.new.bids c.self.invariant.2 put.betters,
    )

pub returns-in_err-put_entry-clause-unchanged : goal.returns-in_err-put_entry-clause-unchanged
returns-in_err-put_entry-clause-unchanged c =
    let known : c.args.j ≤ length c.self.inside.bidders.items = omega (arith, bidders-read c.self.inside c.args.self.now c.self.view_is) in
    on-err c.from_residual.result _
    (bids_same c.self.inside c.args.j c.requires.bidder.0 known c.index_mut-bidder.result.now c.index_mut-bidder.ensures.value c.put_entry.new.bids
    c.in_err-put_entry.ensures.unchanged ∙ c.self.view_is)

pub returns-in_err-put_entry-clause-known : goal.returns-in_err-put_entry-clause-known
returns-in_err-put_entry-clause-known c = λ i is.
    let known : c.args.j ≤ length c.self.inside.bidders.items = omega (arith, bidders-read c.self.inside c.args.self.now c.self.view_is) in
    let old = c.index_mut-bidder.result.now.bids.items in
    let own : bids_of c.args.self.now c.args.j ≡ map bid_value old =
    own_bids c.self.inside c.args.j c.requires.bidder.0 known c.index_mut-bidder.result.now c.index_mut-bidder.ensures.value c.args.self.now c.self.view_is in
    let count : length (bids_of c.args.self.now c.args.j) ≡ length old = ap (λ (l : List BookBid). length l) own ∙ length-map old bid_value in
    let lots : (get_or (map bid_value old) (i - 1) no_bid).lots ≡ c.with_net-entry.result.bid.package =
    ap (λ (l : List BookBid). (get_or l (i - 1) no_bid).lots) (sym own) ∙ sym (lots_at c.args.self.now c.args.j i is.some) ∙ is.own
    ∙ ap (λ (b : BookBid). b.lots) (sym c.with_net-entry.ensures.bid) in
    absurd (false≢true (c.in_err-put_entry.ensures.known (i - 1) (omega (arith, is.some, is.known, count)) lots))

pub returns-clause-put : goal.returns-clause-put
returns-clause-put c =
    let b = c.self.inside in
    let j = c.args.j in
    let known : j ≤ length b.bidders.items = omega (arith, bidders-read b c.args.self.now c.self.view_is) in
    let old = c.index_mut-bidder.result.now in
    let read = c.index_mut-bidder.ensures.value in
    let own = own_bids b j c.requires.bidder.0 known old read c.args.self.now c.self.view_is in
    let list = put-list (bids_of c.args.self.now j) old.bids.items c.put_entry.new.bids.items c.with_net-entry.result
    (bid_of c.args.bid) own c.with_net-entry.ensures.bid c.in_ok-put_entry.ensures.put in
    bids_are b j c.requires.bidder.0 known old read c.put_entry.new.bids c.args.self.now _ c.self.view_is list
