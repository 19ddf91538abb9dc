use Rattle.std.proofs.lemmas.Int.{to_z-of_z}
use mir.Val.{SFits}
use mir.Syntax.{w128}
use Rattle.std.proofs.Common.{rules, ◌≡◌, ◌<◌, length, sym, ◌∙◌, subst, arith}
use Rattle.auction_model.specs.Book.{Book}
use Rattle.bid_book.specs.Kept.{IsBidBook}
use Rattle.bid_book.specs.declared.book.Entry.{Entry}
use Rattle.bid_book.specs.Fields.{HasNet}
use Rattle.bid_book.proofs.BookReads.{bidders-read}
use Rattle.bid_book.proofs.Within.{kept}
use Rattle.bid_book.proofs.BetterLaws.{beats-as}
use Rattle.bid_book.proofs.Added.{none_came, bid_pushed, none_nets, pushed_nets, none_betters, pushed_betters}
use Rattle.bid_book.proofs.book.BidBook.add_bid.Goals as goal

pub invariant_of-self : goal.invariant_of-self
invariant_of-self c =
    let long : c.len-last.result ≡ length c.self.inside.bidders.items = c.len-last.ensures ∙ c.self.inside.bidders.ok.0 in
    let some : 0 < length c.self.inside.bidders.items = omega (arith, bidders-read c.self.inside c.args.self.now c.self.view_is) in
    let same = c.in_err-push.ensures.items in (
      subst IsBidBook (sym (none_came c.self.inside c.len-last.result long some c.index_mut-bidder.result.now c.index_mut-bidder.ensures.value c.push.new.self
          same)) c.self.invariant.0,
      none_nets c.self.inside c.len-last.result long some c.index_mut-bidder.result.now c.index_mut-bidder.ensures.value c.push.new.self same
          c.self.invariant.1,
      none_betters c.self.inside c.len-last.result long some c.index_mut-bidder.result.now c.index_mut-bidder.ensures.value c.push.new.self same
          c.self.invariant.2,
    )

pub invariant_of-self-2 : goal.invariant_of-self-2
invariant_of-self-2 c =
    let long : c.len-last.result ≡ length c.self.inside.bidders.items = c.len-last.ensures ∙ c.self.inside.bidders.ok.0 in
    let some : 0 < length c.self.inside.bidders.items = omega (arith, bidders-read c.self.inside c.args.self.now c.self.view_is) in
    let net_fits : SFits w128 c.args.entry.net = search rules in
    let pushed = rw (to_z-of_z w128 c.args.entry.net net_fits) at c.in_ok-push.ensures.items in
    let entry : Entry = record { bid = c.args.entry.bid; net = c.args.entry.net; better = c.better_among-better.result } in
    let net : HasNet c.self.inside.reserves.items c.args.entry = subst (λ (x : Book). HasNet x.reserves c.args.entry) (sym c.self.view_is) c.requires.net in (
      subst IsBidBook (sym (bid_pushed c.self.inside c.len-last.result long some c.index_mut-bidder.result.now c.index_mut-bidder.ensures.value
          c.push.new.self c.args.self.now entry c.self.view_is pushed)) (kept _ c.requires.kept),
      pushed_nets c.self.inside c.len-last.result long some c.index_mut-bidder.result.now c.index_mut-bidder.ensures.value c.push.new.self entry pushed
          c.self.invariant.1 net,
      pushed_betters c.self.inside c.len-last.result long some c.index_mut-bidder.result.now c.index_mut-bidder.ensures.value c.push.new.self entry pushed
          c.self.invariant.2 (beats-as c.deref.result.now c.index_mut-bidder.result.now.bids.items c.args.entry c.better_among-better.result
          c.better_among-better.result c.deref.ensures.value c.better_among-better.ensures),
    )

pub returns : goal.returns
returns c =
    let long : c.len-last.result ≡ length c.self.inside.bidders.items = c.len-last.ensures ∙ c.self.inside.bidders.ok.0 in
    let some : 0 < length c.self.inside.bidders.items = omega (arith, bidders-read c.self.inside c.args.self.now c.self.view_is) in
    let net_fits : SFits w128 c.args.entry.net = search rules in
    let pushed = rw (to_z-of_z w128 c.args.entry.net net_fits) at c.in_ok-push.ensures.items in
    let entry : Entry = record { bid = c.args.entry.bid; net = c.args.entry.net; better = c.better_among-better.result } in
    bid_pushed c.self.inside c.len-last.result long some c.index_mut-bidder.result.now c.index_mut-bidder.ensures.value c.push.new.self c.args.self.now entry
    c.self.view_is pushed
