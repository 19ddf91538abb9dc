use Rattle.std.proofs.Common.{◌++◌, ap, refl, ◌∙◌, arith}
use Rattle.auction_model.specs.Book.{Bidder}
use Rattle.bid_book.specs.Written.{bidder_text, bidders_text}
use Rattle.line_format.proofs.NumberRuns.{all_added}
use Rattle.bid_book.proofs.WriteLaws.{bidder_is, next_bidder}
use Rattle.bid_book.proofs.write.add_bidders.Goals as goal

pub loop-k-preserved : goal.loop-k-preserved
loop-k-preserved c =
    let bidders = c.args.book.now.bidders in
    let k = c.loop-k.k in
    next_bidder bidders k _ c.loop-k.text c.add_bidder.new.text (omega arith) c.loop-k.invariant
    (c.in_ok-add_bidder.ensures ∙ ap (λ (b : Bidder). c.loop-k.text ++ bidder_text b) (bidder_is c.args.book.now k))

pub returns : goal.returns
returns c = all_added bidders_text c.args.book.now.bidders c.loop-k.k _ c.loop-k.text (omega arith) refl c.loop-k.invariant
