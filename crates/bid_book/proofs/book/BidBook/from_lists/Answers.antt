use Rattle.std.proofs.Common.{List, ℕ, sym, subst, ◌∙◌}
use Rattle.std.specs.List.{AllByRecursion}
use Rattle.bid_book.specs.Gathered.{AreBookBidders}
use Rattle.bid_book.specs.Kept.{IsBidBook}
use Rattle.bid_book.specs.Sound.{IsSoundBidder}
use Rattle.bid_book.specs.Lists.{book_of}
use Rattle.bid_book.specs.declared.book.BidBook.TheInside.{Inside}
use Rattle.bid_book.proofs.TakenLaws.{held_is}
use Rattle.bid_book.proofs.Within.{kept, sound}
use Rattle.bid_book.proofs.book.BidBook.from_lists.Goals as goal

pub book_bidders-requires-clause-sound : goal.book_bidders-requires-clause-sound
book_bidders-requires-clause-sound c =
    let own = sound (book_of c.args.supply c.args.reserves c.args.bidders) c.requires in
    subst (λ (r : List ℕ). AllByRecursion (IsSoundBidder c.args.supply r) c.args.bidders) (sym (c.deref.ensures.value ∙ c.into_vec-reserves.ensures)) own

pub returns : goal.returns
returns c =
    let made : Inside = record { supply = c.args.supply; reserves = c.into_vec-reserves.result; bidders = c.in_ok-bidders.bidders } in
    held_is made c.args.reserves c.args.bidders c.into_vec-reserves.ensures (subst
    (λ (r : List ℕ). AreBookBidders r c.args.bidders c.in_ok-bidders.bidders.items) c.deref.ensures.value c.in_ok-bidders.ensures)

pub invariant_of-result : goal.invariant_of-result
invariant_of-result c =
    let made : Inside = record { supply = c.args.supply; reserves = c.into_vec-reserves.result; bidders = c.in_ok-bidders.bidders } in
    let own : AreBookBidders c.into_vec-reserves.result.items c.args.bidders c.in_ok-bidders.bidders.items =
    subst (λ (r : List ℕ). AreBookBidders r c.args.bidders c.in_ok-bidders.bidders.items) c.deref.ensures.value c.in_ok-bidders.ensures in
    let is = held_is made c.args.reserves c.args.bidders c.into_vec-reserves.ensures own in
    (subst IsBidBook (sym is) (kept (book_of c.args.supply c.args.reserves c.args.bidders) c.requires), own.nets, own.betters)
