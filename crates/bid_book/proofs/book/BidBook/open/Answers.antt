use Rattle.std.proofs.Common.{◌≡◌, List, [], length, sym, ap, subst, arith}
use Rattle.std.specs.Prelude.{map}
use Rattle.bid_book.specs.Kept.{IsBidBook}
use Rattle.bid_book.specs.Fields.{bidder_value}
use Rattle.bid_book.specs.declared.book.BookBidder.{BookBidder}
use Rattle.bid_book.proofs.Within.{kept, opened_within}
use Rattle.bid_book.proofs.book.BidBook.open.Goals as goal

pub invariant_of-result : goal.invariant_of-result
invariant_of-result c =
    let none : [] ≡ c.new.result.items = sym c.new.ensures.items in (
      subst (λ (bs : List BookBidder). IsBidBook (record { supply = c.args.supply; reserves = c.args.reserves.items; bidders = map bidder_value bs })) none
          (kept _ (opened_within c.args.supply c.args.reserves.items c.requires.supply c.requires.reserves)),
      λ k d lt. absurd (omega (arith, ap length none)),
      λ k d lt. absurd (omega (arith, ap length none)),
    )
