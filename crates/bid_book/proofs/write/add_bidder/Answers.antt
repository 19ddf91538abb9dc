use Rattle.std.proofs.Common.{◌≡◌, ◌++◌, ◌<◌, List, ℕ, length, get_or, ap, refl, ◌∙◌, arith}
use Rattle.line_format.specs.LineText.{text_of}
use Rattle.auction_model.specs.Book.{BookBid, bidder_of, bids_of, no_bid}
use Rattle.book_grammar.specs.BookLines.{bid_lines}
use Rattle.bid_book.specs.Lists as lists
use Rattle.bid_book.specs.Written.{bid_text}
use Rattle.line_format.proofs.NumberRuns.{all_added}
use Rattle.bid_book.proofs.WriteLaws.{bid_is, next_bid, whole_bidder}
use Rattle.bid_book.proofs.write.add_bidder.Goals as goal

pub loop-i-preserved : goal.loop-i-preserved
loop-i-preserved c =
    let bids = bids_of c.args.book.now c.args.j in
    let i = c.loop-i.i in
    let inside : i < length bids = omega (arith, c.bids-i-end.ensures.bids) in
    let own : lists.bid_of c.bid.result.now ≡ get_or bids i no_bid = bid_is c.args.book.now c.bid.result.now c.args.j i c.bid.ensures.lots
    c.bid.ensures.amount in
    next_bid bids i _ c.loop-i.text c.add_bid.new.text inside c.loop-i.invariant
    (c.in_ok-add_bid.ensures ∙ ap (λ (b : BookBid). c.loop-i.text ++ bid_text b) own)

pub returns : goal.returns
returns c =
    let bids = bids_of c.args.book.now c.args.j in
    let all = all_added (λ (l : List BookBid). text_of (bid_lines 0 l)) bids c.loop-i.i _ c.loop-i.text
    (omega (arith, c.bids-i-end.ensures.bids)) refl c.loop-i.invariant in
    let name : c.add-2.new.self ≡ c.add.new.self ++ (bidder_of c.args.book.now c.args.j).name = c.in_ok-add-2.ensures
    ∙ ap (λ (l : List ℕ). c.add.new.self ++ l) (c.as_bytes.ensures.value ∙ c.name.ensures) in
    whole_bidder (bidder_of c.args.book.now c.args.j) c.args.text.now c.add.new.self c.add-2.new.self c.push.new.self c.loop-i.text c.in_ok-add.ensures name
    c.in_ok-push.ensures all
