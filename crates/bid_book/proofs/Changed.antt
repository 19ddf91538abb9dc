-- What the fields hold if one bidder has other bids.
use Rattle.std.proofs.Common.{◌≡◌, ℕ, suc, ◌-◌, ◌≤◌, ◌<◌, List, length, get_or, set, refl, sym, ap, subst, ◌∙◌, arith, Vec, Global}
use Rattle.std.specs.Prelude.{map, Result, Ok, Err, OnErr}
use Rattle.std.specs.Vec.{with_item}
use Rattle.std.specs.List.{All}
use Rattle.std.proofs.lemmas.List.{map-set, get_or-map, get_or_default, set-get_or}
use Rattle.std.proofs.lemmas.List.Elements.{All-set}
use Rattle.auction_model.specs.Book.{Bidder, Book, BookBid, bidder_of, bidder_with, bids_of, with_bidders}
use Rattle.bid_book.specs.declared.book.Entry.{Entry}
use Rattle.bid_book.specs.declared.book.BookBidder.{BookBidder}
use Rattle.bid_book.specs.declared.book.BidBook.TheInside.{Inside}
use Rattle.bid_book.specs.Kept.{IsBidBook}
use Rattle.bid_book.specs.Changes.{with_bids}
use Rattle.bid_book.specs.Fields.{bid_value, bidder_value, book_value, HasNet, NetsAreKept}
use Rattle.bid_book.specs.Better.{AreBetter, BettersAreKept}
use Rattle.bid_book.proofs.BookReads.{bidder-read, bids-read, categories-at}

-- the fields with these bidders
abbrev pub with_fields : Inside → Vec BookBidder Global → Inside
with_fields b bidders = record { supply = b.supply; reserves = b.reserves; bidders = bidders }

-- what holds anyhow holds of an error
pub on-err : {T E : Type 0} (r : Result T E) (P : Type 0) → P → OnErr r P
on-err (Ok x) P here = tt
on-err (Err e) P here = here

module _ (b : Inside) (j : ℕ) (some : 0 < j) (known : j ≤ length b.bidders.items) (old : BookBidder) (read : old ≡ get_or b.bidders.items (j - 1) old) where
  -- the bids of that bidder
  pub own_nets : NetsAreKept b → All (HasNet b.reserves.items) old.bids.items
  own_nets nets = subst (λ (x : BookBidder). All (HasNet b.reserves.items) x.bids.items) (sym read) (nets (j - 1) old (omega arith))

  -- among the bids of that bidder it is right which are better
  pub own_betters : BettersAreKept b → AreBetter old.bids.items
  own_betters betters = subst (λ (x : BookBidder). AreBetter x.bids.items) (sym read) (betters (j - 1) old (omega arith))

  -- the bids of bidder j in the book are those that was in its fields
  pub own_bids : (book : Book) → book_value b ≡ book → bids_of book j ≡ map bid_value old.bids.items
  own_bids book is = bids-read b book is j known some old read

  -- the packages of that bidder have as many categories as the supply
  pub own_categories : IsBidBook (book_value b) → All (λ (e : Entry). length e.bid.package ≡ length b.supply) old.bids.items
  own_categories kept k d inside =
      let e = get_or old.bids.items k d in
      let down : suc k - 1 ≡ k = omega arith in
      let is : e ≡ get_or old.bids.items (suc k - 1) e = rw down (get_or_default old.bids.items k d e inside) in
      categories-at b (book_value b) refl j known some old read (suc k) e kept (omega arith) (omega (arith, inside)) is

  value_at : get_or (map bidder_value b.bidders.items) (j - 1) (bidder_value old) ≡ bidder_value old
  value_at = get_or-map bidder_value b.bidders.items (j - 1) old (bidder_value old) (omega arith) ∙ ap bidder_value (sym read)

  module _ (bids : Vec Entry Global) where
    -- the bidder has these bids
    abbrev pub changed : Inside
    changed = with_fields b (with_item b.bidders (j - 1) (record { name = old.name; bids = bids }))

    -- the book of the changed fields has this bidder in the place of the old one
    pub changed_is : (own : Bidder) → bidder_with old.name (map bid_value bids.items) ≡ own → book_value changed ≡ with_bidders (book_value b)
        (set (map bidder_value b.bidders.items) (j - 1) own)
    changed_is own is =
        ap (with_bidders (book_value b)) (map-set bidder_value b.bidders.items (j - 1) (record { name = old.name; bids = bids })
        ∙ ap (set (map bidder_value b.bidders.items) (j - 1)) is)

    -- nothing has changed
    pub bids_same : bids.items ≡ old.bids.items → book_value changed ≡ book_value b
    bids_same same =
        let own : bidder_with old.name (map bid_value bids.items) ≡ bidder_value old = ap (λ (l : List Entry). bidder_with old.name (map bid_value l)) same in
        changed_is (bidder_value old) own ∙ ap (with_bidders (book_value b)) (ap (set (map bidder_value b.bidders.items) (j - 1)) (sym value_at)
        ∙ set-get_or (map bidder_value b.bidders.items) (j - 1) (bidder_value old))

    -- the bidder has other bids
    pub bids_are : (book : Book) (list : List BookBid) → book_value b ≡ book → map bid_value bids.items ≡ list → book_value changed ≡ with_bids book j list
    bids_are book list is made =
        let own : bidder_of book j ≡ bidder_value old = bidder-read b book is j known some old read in
        changed_is (bidder_with old.name list) (ap (bidder_with old.name) made)
        ∙ ap (λ (x : Book). with_bidders x (set x.bidders (j - 1) (bidder_with old.name list))) is
        ∙ ap (λ (x : Bidder). with_bidders book (set book.bidders (j - 1) (bidder_with x.name list))) (sym own)

    -- if the net amounts of the new bids are right, those of the changed fields are
    pub changed_nets : NetsAreKept b → All (HasNet b.reserves.items) bids.items → NetsAreKept changed
    changed_nets nets own = All-set (λ (x : BookBidder). All (HasNet b.reserves.items) x.bids.items) b.bidders.items (j - 1)
        (record { name = old.name; bids = bids }) own nets

    -- the net amounts stay right if the bids are the same
    pub same_nets : bids.items ≡ old.bids.items → NetsAreKept b → NetsAreKept changed
    same_nets same nets = changed_nets nets (subst (All (HasNet b.reserves.items)) (sym same) (own_nets nets))

    -- if it is right which of the new bids are better, it is so for the changed fields
    pub changed_betters : BettersAreKept b → AreBetter bids.items → BettersAreKept changed
    changed_betters betters own = All-set (λ (x : BookBidder). AreBetter x.bids.items) b.bidders.items (j - 1)
        (record { name = old.name; bids = bids }) own betters

    -- which bids are better stays right if the bids are the same
    pub same_betters : bids.items ≡ old.bids.items → BettersAreKept b → BettersAreKept changed
    same_betters same betters = changed_betters betters (subst AreBetter (sym same) (own_betters betters))
