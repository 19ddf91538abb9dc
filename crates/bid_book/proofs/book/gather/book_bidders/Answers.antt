use Rattle.std.proofs.Common.{◌≡◌, List, ap, sym, subst, rules}
use Rattle.std.specs.List.{AllByRecursion}
use Rattle.std.specs.Vec.Iter.{into_iter_items, into_iter_len}
use Rattle.auction_model.specs.Book.{BookBid}
use Rattle.bid_book.specs.declared.book.Entry.{Entry}
use Rattle.bid_book.specs.Gathered.{AreEntries}
use Rattle.bid_book.specs.Sound.{IsSoundBid}
use Rattle.bid_book.proofs.TakenLaws.{all_held, fewer_left, next_sound, none_held, none_left, one_held}
use Rattle.bid_book.proofs.book.gather.book_bidders.Goals as goal

pub loop-bidder-init : goal.loop-bidder-init
loop-bidder-init c =
    let all = c.into_vec-bidder-items.result.items in
    let none = none_held c.args.supply.now c.args.reserves.now c.args.bidders all c.requires.sound c.into_vec-bidder-items.ensures in
    let gives : into_iter_items c.into_iter-bidder-iterator.result ≡ all = c.into_iter-bidder-iterator.ensures.into_iter_gives.0 in
    record {
      held = rw (gives, c.new-held.ensures.items) none;
      count = search rules;
    }

pub entries_of-requires-clause-sound : goal.entries_of-requires-clause-sound
entries_of-requires-clause-sound c =
    let own = next_sound c.args.supply.now c.args.reserves.now c.args.bidders c.loop-bidder.held.items (into_iter_items c.loop-bidder.bidder-iterator)
    (into_iter_items c.next.new.self) c.in-Some.bidder c.loop-bidder.invariant.held c.in-Some.ensures.steps.0 in
    subst (AllByRecursion (IsSoundBid c.args.supply.now c.args.reserves.now)) (sym c.into_vec-bids.ensures) own

pub loop-bidder-preserved : goal.loop-bidder-preserved
loop-bidder-preserved c =
    let supply = c.args.supply.now in
    let reserves = c.args.reserves.now in
    let held = c.loop-bidder.held.items in
    let rest = into_iter_items c.loop-bidder.bidder-iterator in
    let more = into_iter_items c.next.new.self in
    let same : AreEntries reserves c.in-Some.bidder.bids c.in_ok-bids.bids.items = subst (λ (l : List BookBid). AreEntries reserves l c.in_ok-bids.bids.items)
    c.into_vec-bids.ensures c.in_ok-bids.ensures in
    let own : AreEntries reserves c.in-Some.bidder.bids c.new.result.bids.items = subst (λ (l : List Entry). AreEntries reserves c.in-Some.bidder.bids l)
    (sym (ap (λ v. v.items) c.new.ensures.1)) same in
    let grown = one_held supply reserves c.args.bidders held rest more c.in-Some.bidder c.new.result c.loop-bidder.invariant.held c.in-Some.ensures.steps.0
    c.new.ensures.0 own in
    record {
      held = rw c.in_ok-push.ensures.items grown;
      count = fewer_left rest more c.in-Some.bidder (into_iter_len c.loop-bidder.bidder-iterator) (into_iter_len c.next.new.self)
          c.loop-bidder.invariant.count c.in-Some.ensures.steps.0 c.in-Some.ensures.steps.1;
    }

pub returns : goal.returns
returns c =
    let rest = into_iter_items c.loop-bidder.bidder-iterator in
    all_held c.args.supply.now c.args.reserves.now c.args.bidders c.loop-bidder.held.items rest c.loop-bidder.invariant.held
    (none_left rest (into_iter_len c.loop-bidder.bidder-iterator) c.loop-bidder.invariant.count c.in-None.ensures.steps.0)
