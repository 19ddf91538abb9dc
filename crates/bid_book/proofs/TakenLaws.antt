-- Bids that are taken one by one from a list, as a book keeps them.
use Rattle.std.specs.Prelude.{◌≡◌, ℕ, ◌+◌, List, [], ◌∷◌, ◌++◌, length, map}
use Rattle.std.specs.List.{All, AllByRecursion}
use Rattle.std.proofs.Common.{refl, sym, ap, subst, ◌∙◌, arith, append_assoc}
use Rattle.std.proofs.lemmas.List.{map-append, append-nil}
use Rattle.std.proofs.lemmas.List.Elements.{All-nil, All-push}
use Rattle.lots.specs.declared.package.Bid.{Bid}
use Rattle.auction_model.specs.Book.{Bidder, BookBid}
use Rattle.bid_book.specs.declared.book.Entry.{Entry}
use Rattle.bid_book.specs.declared.book.BookBidder.{BookBidder}
use Rattle.bid_book.specs.declared.bidders.BidderBids.{BidderBids}
use Rattle.bid_book.specs.declared.book.BidBook.TheInside.{Inside}
use Rattle.bid_book.specs.Fields.{bid_value, bidder_value, book_value, HasNet}
use Rattle.bid_book.specs.Gathered.{AreBookBidders, AreEntries}
use Rattle.bid_book.specs.Better.{AreBetter, BeatsAmong}
use Rattle.bid_book.specs.Lists.{bid_of, book_of}
use Rattle.bid_book.specs.Listed.{bidder_of}
use Rattle.bid_book.specs.Sound.{IsSoundBid, IsSoundBidder}
use Rattle.bid_book.proofs.BetterLaws.{better-push}

-- a list of no length
pub none_left : {X : Type 0} (xs : List X) (count : ℕ) → count ≡ length xs → count ≡ 0 → xs ≡ []
none_left [] count is none = refl
none_left (x ∷ xs) count is none = absurd (omega arith)

-- one item fewer is left
pub fewer_left : {X : Type 0} (xs more : List X) (x : X) (count rest : ℕ) → count ≡ length xs → xs ≡ x ∷ more → rest + 1 ≡ count → rest ≡ length more
fewer_left xs more x count rest is next one = omega (arith, ap length next)

-- these entries and the bids that are left make all bids
pub record AreTaken (supply reserves : List ℕ) (bids : List Bid) (entries : List Entry) (rest : List Bid) : Type 0 where
  pub sound : AllByRecursion (IsSoundBid supply reserves) (map bid_of rest)
  pub same : map bid_value entries ++ map bid_of rest ≡ map bid_of bids
  pub nets : All (HasNet reserves) entries
  pub betters : AreBetter entries

-- the next bid keeps the rules
pub next_bid : (supply reserves : List ℕ) (bids : List Bid) (entries : List Entry) (rest more : List Bid) (bid : Bid)
    → AreTaken supply reserves bids entries rest → rest ≡ bid ∷ more → IsSoundBid supply reserves (bid_of bid)
next_bid supply reserves bids entries rest more bid so next =
    let sound : AllByRecursion (IsSoundBid supply reserves) (map bid_of (bid ∷ more)) =
    subst (λ (l : List Bid). AllByRecursion (IsSoundBid supply reserves) (map bid_of l)) next so.sound in
    sound.0

-- nothing is taken yet
pub none_taken : (supply reserves : List ℕ) (bids : List Bid) → AllByRecursion (IsSoundBid supply reserves) (map bid_of bids)
    → AreTaken supply reserves bids [] bids
none_taken supply reserves bids sound = record {
  sound = sound;
  same = refl;
  nets = All-nil (HasNet reserves);
  betters =
      λ i d inside. absurd (omega (arith, inside));
}

-- one bid more
pub one_taken : (supply reserves : List ℕ) (bids : List Bid) (entries : List Entry) (rest more : List Bid) (bid : Bid) (entry : Entry)
    → AreTaken supply reserves bids entries rest → rest ≡ bid ∷ more → bid_value entry ≡ bid_of bid → HasNet reserves entry
    → BeatsAmong entries entry entry.better
    → AreTaken supply reserves bids (entries ++ entry ∷ []) more
one_taken supply reserves bids entries rest more bid entry so next is net beats =
    let sound : AllByRecursion (IsSoundBid supply reserves) (map bid_of (bid ∷ more)) =
    subst (λ (l : List Bid). AllByRecursion (IsSoundBid supply reserves) (map bid_of l)) next so.sound in
    record {
      sound = sound.1;
      same = ap (λ (l : List BookBid). l ++ map bid_of more) (map-append bid_value entries (entry ∷ []))
          ∙ append_assoc (map bid_value entries) (bid_value entry ∷ []) (map bid_of more)
          ∙ ap (λ (b : BookBid). map bid_value entries ++ b ∷ map bid_of more) is
          ∙ ap (λ (l : List Bid). map bid_value entries ++ map bid_of l) (sym next)
          ∙ so.same;
      nets = All-push (HasNet reserves) entries entry so.nets net;
      betters = better-push entries entry so.betters beats;
    }

-- all bids are taken
pub all_taken : (supply reserves : List ℕ) (bids : List Bid) (entries : List Entry) (rest : List Bid) → AreTaken supply reserves bids entries rest → rest ≡ []
    → AreEntries reserves (map bid_of bids) entries
all_taken supply reserves bids entries rest so end =
    record {
      same = sym (append-nil (map bid_value entries)) ∙ ap (λ (l : List Bid). map bid_value entries ++ map bid_of l) (sym end) ∙ so.same;
      nets = so.nets;
      betters = so.betters;
    }

-- these bidders and those that are left make all bidders
pub record AreHeld (supply reserves : List ℕ) (bidders : List Bidder) (held : List BookBidder) (rest : List BidderBids) : Type 0 where
  pub sound : AllByRecursion (IsSoundBidder supply reserves) (map bidder_of rest)
  pub same : map bidder_value held ++ map bidder_of rest ≡ bidders
  pub nets : All (λ x. All (HasNet reserves) x.bids.items) held
  pub betters : All (λ x. AreBetter x.bids.items) held

-- no bidder is taken yet
pub none_held : (supply reserves : List ℕ) (bidders : List Bidder) (rest : List BidderBids) → AllByRecursion (IsSoundBidder supply reserves) bidders
    → map bidder_of rest ≡ bidders → AreHeld supply reserves bidders [] rest
none_held supply reserves bidders rest sound is =
    record {
      sound = subst (AllByRecursion (IsSoundBidder supply reserves)) (sym is) sound;
      same = is;
      nets =
          All-nil (λ (x : BookBidder). All (HasNet reserves) x.bids.items);
      betters = All-nil (λ (x : BookBidder). AreBetter x.bids.items);
    }

-- the next bidder keeps the rules
pub next_sound :
    (supply reserves : List ℕ) (bidders : List Bidder) (held : List BookBidder) (rest more : List BidderBids) (bidder : BidderBids)
    → AreHeld supply reserves bidders held rest → rest ≡ bidder ∷ more → AllByRecursion (IsSoundBid supply reserves) bidder.bids
next_sound supply reserves bidders held rest more bidder so next =
    let sound : AllByRecursion (IsSoundBidder supply reserves) (map bidder_of (bidder ∷ more)) = subst
    (λ (l : List BidderBids). AllByRecursion (IsSoundBidder supply reserves) (map bidder_of l)) next so.sound in
    sound.0.each

-- one bidder more
pub one_held :
    (supply reserves : List ℕ) (bidders : List Bidder) (held : List BookBidder) (rest more : List BidderBids) (bidder : BidderBids)
    (made : BookBidder) → AreHeld supply reserves bidders held rest → rest ≡ bidder ∷ more → made.name ≡ bidder.name
    → AreEntries reserves bidder.bids made.bids.items
    → AreHeld supply reserves bidders (held ++ made ∷ []) more
one_held supply reserves bidders held rest more bidder made so next name own =
    let sound : AllByRecursion (IsSoundBidder supply reserves) (map bidder_of (bidder ∷ more)) = subst
    (λ (l : List BidderBids). AllByRecursion (IsSoundBidder supply reserves) (map bidder_of l)) next so.sound in
    let is : bidder_value made ≡ bidder_of bidder = cc (name, own.same) in
    record {
      sound = sound.1;
      same = ap (λ (l : List Bidder). l ++ map bidder_of more) (map-append bidder_value held (made ∷ []))
          ∙ append_assoc (map bidder_value held) (bidder_value made ∷ []) (map bidder_of more)
          ∙ ap (λ (b : Bidder). map bidder_value held ++ b ∷ map bidder_of more) is
          ∙ ap (λ (l : List BidderBids). map bidder_value held ++ map bidder_of l) (sym next)
          ∙ so.same;
      nets = All-push (λ (x : BookBidder). All (HasNet reserves) x.bids.items) held made so.nets own.nets;
      betters = All-push (λ (x : BookBidder). AreBetter x.bids.items) held made so.betters own.betters;
    }

-- all bidders are taken
pub all_held : (supply reserves : List ℕ) (bidders : List Bidder) (held : List BookBidder) (rest : List BidderBids)
    → AreHeld supply reserves bidders held rest → rest ≡ [] → AreBookBidders reserves bidders held
all_held supply reserves bidders held rest so end =
    record {
      same = sym (append-nil (map bidder_value held)) ∙ ap (λ (l : List BidderBids). map bidder_value held ++ map bidder_of l) (sym end) ∙ so.same;
      nets = so.nets;
      betters = so.betters;
    }

-- fields that hold such bidders hold the book of the lists
pub held_is : (b : Inside) (reserves : List ℕ) (bidders : List Bidder) → b.reserves.items ≡ reserves → AreBookBidders b.reserves.items bidders b.bidders.items
    → book_value b ≡ book_of b.supply reserves bidders
held_is b reserves bidders is own = cc (is, own.same)
