use Rattle.std.proofs.Common.{inr, ◌≡◌, ◌<◌, ℕ, Some, None, length, sym, ap, ◌∙◌, subst, arith}
use Rattle.auction_model.specs.Book.{Book, bids_of}
use Rattle.limits.specs.declared.LimitKind.TheVariants.{Bids}
use Rattle.bid_book.specs.Fields.{bid_value}
use Rattle.bid_book.specs.Stages.{AddsBid, with_bid, last_bids, last_excess}
use Rattle.bid_book.proofs.Within.{grown}
use Rattle.bid_book.proofs.StopLaws.{one_limit}
use Rattle.bid_book.proofs.EntryLaws.{bid_marks, many_bids, few_bids, adds_entry}
use Rattle.bid_book.proofs.read.entries.take_bid.Goals as goal

pub returns-then-bids-ge-MOST_BIDS-clause-limit : goal.returns-then-bids-ge-MOST_BIDS-clause-limit
returns-then-bids-ge-MOST_BIDS-clause-limit c = λ kind count err.
    let some : 0 < length c.args.book.now.bidders = omega arith in
    let entry = c.in_ok-entry.ensures.ok in
    let had : c.bids.result ≡ length (last_bids c.args.book.now) = c.bids.ensures.bids ∙ ap (λ (n : ℕ). length (bids_of c.args.book.now n))
    c.bidders-2.ensures.bidders in
    let over : last_excess 0 (with_bid c.args.book.now (bid_value c.in_ok-entry.entry)).bidders ≡ Some (Bids, 601) =
    bid_marks c.args.book.now (bid_value c.in_ok-entry.entry) some ∙ many_bids (length (last_bids c.args.book.now)) (omega arith) in
    let told = one_limit (Bids, 601) (kind, count) err in (
      with_bid c.args.book.now (bid_value c.in_ok-entry.entry),
      adds_entry c.args.book.now c.args.line.now (bid_value c.in_ok-entry.entry) some entry.0 entry.1,
      over ∙ ap Some told,
    )

pub add_bid-requires-clause-kept : goal.add_bid-requires-clause-kept
add_bid-requires-clause-kept c =
    let some : 0 < length c.args.book.now.bidders = omega arith in
    let entry = c.in_ok-entry.ensures.ok in
    let had : c.bids.result ≡ length (last_bids c.args.book.now) = c.bids.ensures.bids ∙ ap (λ (n : ℕ). length (bids_of c.args.book.now n))
    c.bidders-2.ensures.bidders in
    let none = bid_marks c.args.book.now (bid_value c.in_ok-entry.entry) some ∙ few_bids (length (last_bids c.args.book.now)) (omega arith) in
    grown c.args.book.now (with_bid c.args.book.now (bid_value c.in_ok-entry.entry)) c.args.line.now c.bidders.ensures.kept.rules
    (inr (adds_entry c.args.book.now c.args.line.now (bid_value c.in_ok-entry.entry) some entry.0 entry.1)) none

pub returns-clause-ok : goal.returns-clause-ok
returns-clause-ok c =
    let some : 0 < length c.args.book.now.bidders = omega arith in
    let entry = c.in_ok-entry.ensures.ok in
    let had : c.bids.result ≡ length (last_bids c.args.book.now) = c.bids.ensures.bids ∙ ap (λ (n : ℕ). length (bids_of c.args.book.now n))
    c.bidders-2.ensures.bidders in
    let none = bid_marks c.args.book.now (bid_value c.in_ok-entry.entry) some ∙ few_bids (length (last_bids c.args.book.now)) (omega arith) in
    subst (λ (b : Book). AddsBid c.args.book.now b c.args.line.now × (last_excess 0 b.bidders ≡ None)) (sym c.in_ok-add_bid.ensures)
    (adds_entry c.args.book.now c.args.line.now (bid_value c.in_ok-entry.entry) some entry.0 entry.1, none)
