use Rattle.std.proofs.Common.{◌∙◌, sym, rules}
use Rattle.std.specs.Vec.Iter.{into_iter_items, into_iter_len}
use Rattle.bid_book.specs.Better.{BeatsAmong}
use Rattle.bid_book.specs.declared.book.Entry.{Entry}
use Rattle.bid_book.proofs.BetterLaws.{beats-as}
use Rattle.bid_book.proofs.TakenLaws.{all_taken, fewer_left, next_bid, none_left, none_taken, one_taken}
use Rattle.bid_book.proofs.book.gather.entries_of.Goals as goal

pub loop-bid-init : goal.loop-bid-init
loop-bid-init c =
    let supply = c.args.supply.now in
    let reserves = c.args.reserves.now in
    let all = c.args.bids.items in
    let gives = c.into_iter-bid-iterator.ensures.into_iter_gives in
    let none = none_taken supply reserves all c.requires.sound in
    record {
      taken = rw (gives.0, c.new-entries.ensures.items) none;
      count = search rules;
    }

pub with_net-entry-requires-clause-count : goal.with_net-entry-requires-clause-count
with_net-entry-requires-clause-count c =
    let own = next_bid c.args.supply.now c.args.reserves.now c.args.bids.items c.loop-bid.entries.items (into_iter_items c.loop-bid.bid-iterator)
    (into_iter_items c.next.new.self) c.in-Some.bid c.loop-bid.invariant.taken c.in-Some.ensures.steps.0 in
    c.requires.count ∙ sym own.categories

pub loop-bid-preserved : goal.loop-bid-preserved
loop-bid-preserved c =
    let held = c.loop-bid.entries.items in
    let entry = c.with_net-entry.result in
    let better = c.better_among.result in
    let made : Entry = record { bid = entry.bid; net = entry.net; better = better } in
    let beats : BeatsAmong held made better = beats-as c.deref.result.now held entry better better c.deref.ensures.value c.better_among.ensures in
    let more = one_taken c.args.supply.now c.args.reserves.now c.args.bids.items held (into_iter_items c.loop-bid.bid-iterator)
    (into_iter_items c.next.new.self) c.in-Some.bid made c.loop-bid.invariant.taken c.in-Some.ensures.steps.0 c.with_net-entry.ensures.bid
    c.with_net-entry.ensures.net beats in
    record {
      taken = rw c.in_ok-push.ensures.items more;
      count = fewer_left (into_iter_items c.loop-bid.bid-iterator) (into_iter_items c.next.new.self) c.in-Some.bid (into_iter_len c.loop-bid.bid-iterator)
          (into_iter_len c.next.new.self) c.loop-bid.invariant.count c.in-Some.ensures.steps.0 c.in-Some.ensures.steps.1;
    }

pub returns : goal.returns
returns c =
    let rest = into_iter_items c.loop-bid.bid-iterator in
    all_taken c.args.supply.now c.args.reserves.now c.args.bids.items c.loop-bid.entries.items rest c.loop-bid.invariant.taken
    (none_left rest (into_iter_len c.loop-bid.bid-iterator) c.loop-bid.invariant.count c.in-None.ensures.steps.0)
