-- What the fields hold after a bidder or a bid more.
use Rattle.std.proofs.Common.{◌≡◌, ℕ, ◌-◌, ◌≤◌, ◌<◌, List, [], ◌∷◌, ◌++◌, length, get_or, sym, ap, subst, ◌∙◌, arith, Vec, Global}
use Rattle.std.specs.Prelude.{map}
use Rattle.std.specs.List.{All}
use Rattle.std.proofs.lemmas.List.{map-append}
use Rattle.std.proofs.lemmas.List.Elements.{All-nil, All-push}
use Rattle.auction_model.specs.Book.{Bidder, Book, BookBid, bidder_with, bids_of, with_bidders}
use Rattle.bid_book.specs.declared.book.Entry.{Entry}
use Rattle.bid_book.specs.declared.book.BookBidder.{BookBidder}
use Rattle.bid_book.specs.declared.book.BidBook.TheInside.{Inside}
use Rattle.bid_book.specs.Fields.{bid_value, bidder_value, book_value, HasNet, NetsAreKept}
use Rattle.bid_book.specs.Stages.{with_bid}
use Rattle.bid_book.specs.Better.{AreBetter, BeatsAmong, BettersAreKept}
use Rattle.bid_book.specs.Changes.{with_bids}
use Rattle.bid_book.proofs.BookReads.{bidders-read}
use Rattle.bid_book.proofs.Changed.{bids_are, bids_same, changed, changed_betters, changed_nets, own_betters, own_bids, own_nets, same_betters}
use Rattle.bid_book.proofs.Changed.{same_nets, with_fields}
use Rattle.bid_book.proofs.BetterLaws.{better-push}

-- fields with one bidder more who has no bids are the book with that bidder at the end
pub bidder_added : (b : Inside) (book : Book) (made : BookBidder) (bidders : Vec BookBidder Global) → book_value b ≡ book
    → bidders.items ≡ b.bidders.items ++ made ∷ [] → made.bids.items ≡ []
    → book_value (with_fields b bidders) ≡ with_bidders book (book.bidders ++ bidder_with made.name [] ∷ [])
bidder_added b book made bidders is pushed none =
    let own : bidder_value made ≡ bidder_with made.name [] = ap (λ (l : List Entry). bidder_with made.name (map bid_value l)) none in
    let items : map bidder_value bidders.items ≡ map bidder_value b.bidders.items ++ bidder_with made.name [] ∷ [] =
    ap (map bidder_value) pushed ∙ map-append bidder_value b.bidders.items (made ∷ []) ∙ ap (λ (x : Bidder). map bidder_value b.bidders.items ++ x ∷ []) own in
    ap (with_bidders (book_value b)) items ∙ ap (λ (x : Book). with_bidders x (x.bidders ++ bidder_with made.name [] ∷ [])) is

-- a bidder without bids, added at the end, leaves the net amounts right
pub bidder_nets : (b : Inside) (made : BookBidder) (bidders : Vec BookBidder Global) → NetsAreKept b → bidders.items ≡ b.bidders.items ++ made ∷ []
    → made.bids.items ≡ [] → NetsAreKept (with_fields b bidders)
bidder_nets b made bidders nets pushed none =
    subst (All (λ (x : BookBidder). All (HasNet b.reserves.items) x.bids.items)) (sym pushed)
    (All-push (λ (x : BookBidder). All (HasNet b.reserves.items) x.bids.items) b.bidders.items made nets
    (subst (All (HasNet b.reserves.items)) (sym none) (All-nil (HasNet b.reserves.items))))

-- a bidder without bids, added at the end, leaves right which bids are better
pub bidder_betters : (b : Inside) (made : BookBidder) (bidders : Vec BookBidder Global) → BettersAreKept b → bidders.items ≡ b.bidders.items ++ made ∷ []
    → made.bids.items ≡ [] → BettersAreKept (with_fields b bidders)
bidder_betters b made bidders betters pushed none =
    subst (All (λ (x : BookBidder). AreBetter x.bids.items)) (sym pushed)
    (All-push (λ (x : BookBidder). AreBetter x.bids.items) b.bidders.items made betters
    (subst AreBetter (sym none) (λ i d inside. absurd (omega (arith, inside)))))

module _ (b : Inside) (last : ℕ) (last_is : last ≡ length b.bidders.items) (some : 0 < length b.bidders.items) (old : BookBidder)
    (read : old ≡ get_or b.bidders.items (last - 1) old) (bids : Vec Entry Global) where
  -- the number of the last bidder is above 0
  pub last_some : 0 < last
  last_some = omega arith

  -- the number of the last bidder is not above the count of the bidders
  pub last_known : last ≤ length b.bidders.items
  last_known = omega arith

  -- no bid came
  pub none_came : bids.items ≡ old.bids.items → book_value (changed b last last_some last_known old read bids) ≡ book_value b
  none_came same = bids_same b last last_some last_known old read bids same

  -- a bid came
  pub bid_pushed : (book : Book) (entry : Entry) → book_value b ≡ book → bids.items ≡ old.bids.items ++ entry ∷ []
      → book_value (changed b last last_some last_known old read bids) ≡ with_bid book (bid_value entry)
  bid_pushed book entry is pushed =
      let count = bidders-read b book is in
      let made : map bid_value bids.items ≡ bids_of book last ++ bid_value entry ∷ [] =
      ap (map bid_value) pushed ∙ map-append bid_value old.bids.items (entry ∷ []) ∙ ap (λ (l : List BookBid). l ++ bid_value entry ∷ [])
      (sym (own_bids b last last_some last_known old read book is)) in
      bids_are b last last_some last_known old read bids book (bids_of book last ++ bid_value entry ∷ []) is made
      ∙ ap (λ (k : ℕ). with_bids book k (bids_of book k ++ bid_value entry ∷ [])) (last_is ∙ count)

  -- if the last bidder keeps the same bids, the net amounts stay right
  pub none_nets : bids.items ≡ old.bids.items → NetsAreKept b → NetsAreKept (changed b last last_some last_known old read bids)
  none_nets = same_nets b last last_some last_known old read bids

  -- a bid more of the last bidder that is kept with its net amount leaves the net amounts right
  pub pushed_nets : (entry : Entry) → bids.items ≡ old.bids.items ++ entry ∷ [] → NetsAreKept b → HasNet b.reserves.items entry
      → NetsAreKept (changed b last last_some last_known old read bids)
  pushed_nets entry pushed nets net =
      changed_nets b last last_some last_known old read bids nets
      (subst (All (HasNet b.reserves.items)) (sym pushed) (All-push (HasNet b.reserves.items) old.bids.items entry
      (own_nets b last last_some last_known old read nets) net))

  -- if the last bidder keeps the same bids, it stays right which bids are better
  pub none_betters : bids.items ≡ old.bids.items → BettersAreKept b → BettersAreKept (changed b last last_some last_known old read bids)
  none_betters = same_betters b last last_some last_known old read bids

  -- a bid more of the last bidder, whose better bid is among the others if it has one, leaves the better bids right
  pub pushed_betters : (entry : Entry) → bids.items ≡ old.bids.items ++ entry ∷ [] → BettersAreKept b → BeatsAmong old.bids.items entry entry.better
      → BettersAreKept (changed b last last_some last_known old read bids)
  pushed_betters entry pushed betters own =
      changed_betters b last last_some last_known old read bids betters
      (subst AreBetter (sym pushed) (better-push old.bids.items entry (own_betters b last last_some last_known old read betters) own))
