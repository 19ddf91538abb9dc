-- What is kept with each entry as better, and what it says of the book.
use Rattle.std.specs.Prelude.{◌≡◌, ℕ, ◌-◌, ◌≤◌, ◌<◌, IsTrue, List, [], ◌∷◌, ◌++◌, length, get_or, ◌≤ℤ◌}
use Rattle.std.proofs.Common.{inl, inr, sym, ◌∙◌, ap, subst, arith}
use Rattle.std.proofs.lemmas.Bool.{cases_lt}
use Rattle.std.proofs.lemmas.List.{get_or_default, get_or_append_left, length-append}
use Rattle.std.proofs.Math.Seq.{get_or-append_seam}
use Rattle.auction_model.specs.Book.{Book, BookBid, bid_of, lots_of, net_of}
use Rattle.auction_model.specs.Package.{is_within}
use Rattle.bid_book.specs.declared.book.Entry.{Entry}
use Rattle.bid_book.specs.declared.book.BookBidder.{BookBidder}
use Rattle.bid_book.specs.declared.book.BidBook.TheInside.{Inside}
use Rattle.bid_book.specs.Fields.{bid_value, book_value, NetsAreKept}
use Rattle.bid_book.specs.Better.{IsBetter, Beats, BeatsAmong, AreBetter, BettersAreKept}
use Rattle.bid_book.proofs.BookReads.{bid-at, net-at}

beats-more : (bids more : List Entry) (e : Entry) (h : ℕ) → 0 < h → Beats bids e h → Beats (bids ++ more) e h
beats-more bids more e h some b =
    let at : (d : Entry) → get_or (bids ++ more) (h - 1) d ≡ get_or bids (h - 1) d = λ d. get_or_append_left bids more d (h - 1) (omega (arith, b.inside)) in
    record {
      inside = omega (arith, b.inside, length-append bids more);
      smaller = λ d. subst (λ (x : Entry). IsTrue (is_within x.bid.package e.bid.package)) (sym (at d)) (b.smaller d);
      worth = λ d. subst (λ (x : Entry). e.net ≤ℤ x.net) (sym (at d)) (b.worth d);
    }

-- the same of an entry with what was found
pub beats-as : (xs ys : List Entry) (e : Entry) (h better : ℕ) → xs ≡ ys → BeatsAmong xs e h → BeatsAmong ys
    (record { bid = e.bid; net = e.net; better = better }) h
beats-as xs ys e h better same beats some = let b = subst (λ (l : List Entry). Beats l e h) same (beats some) in
    record { inside = b.inside; smaller = b.smaller; worth = b.worth }

-- an entry more
pub better-push : (bids : List Entry) (e : Entry) → AreBetter bids → BeatsAmong bids e e.better → AreBetter (bids ++ e ∷ [])
better-push bids e kept own i d inside some =
    let all = bids ++ e ∷ [] in
    elim (cases_lt i (length bids)) [
      | inl low ↦
          let at : get_or all i d ≡ get_or bids i d = get_or_append_left bids (e ∷ []) d i low in
          let more = subst (λ (x : Entry). 0 < x.better) at some in
          let was = kept i d low more in
          subst (λ (x : Entry). (x.better ≤ i) × Beats all x x.better) (sym at) (
            was.0,
            beats-more bids (e ∷ []) (get_or bids i d)
                (get_or bids i d).better more was.1,
          )
      | inr past ↦
          let last : i ≡ length bids = omega (arith, past, inside, length-append bids (e ∷ [])) in
          let at : get_or all i d ≡ e = ap (λ n. get_or all n d) last ∙ get_or-append_seam bids e [] d in
          let more = subst (λ (x : Entry). 0 < x.better) at some in
          let b = own more in
          subst (λ (x : Entry). (x.better ≤ i) × Beats all x x.better) (sym at) (omega (arith, b.inside, last), beats-more bids (e ∷ []) e e.better more b)
    ]

module _ (b : Inside) (book : Book) (is : book_value b ≡ book) (j : ℕ) (known : j ≤ length b.bidders.items) (some : 0 < j) (bidder : BookBidder)
    (read : bidder ≡ get_or b.bidders.items (j - 1) bidder) where
  -- the better bid that is kept with bid i of bidder j makes it needless in the book
  pub better-at : (i : ℕ) (e : Entry) → BettersAreKept b → NetsAreKept b → 0 < i → i ≤ length bidder.bids.items → e ≡ get_or bidder.bids.items (i - 1) e
      → 0 < e.better → IsBetter book j i e.better
  better-at i e kept nets p q r more =
      let items = bidder.bids.items in
      let h = e.better in
      let own : AreBetter items = subst (λ (x : BookBidder). AreBetter x.bids.items) (sym read) (kept (j - 1) bidder (omega arith)) in
      let found = own (i - 1) e (omega arith) (subst (λ (x : Entry). 0 < x.better) r more) in
      let was : (h ≤ i - 1) × Beats items e h = subst (λ (x : Entry). (x.better ≤ i - 1) × Beats items x x.better) (sym r) found in
      let other = get_or items (h - 1) e in
      let other_is : other ≡ get_or items (h - 1) other = get_or_default items (h - 1) e other (omega (arith, was.1.inside)) in
      let bid_h : bid_of book j h ≡ bid_value other = bid-at b book is j known some bidder read h other more was.1.inside other_is in
      let bid_i : bid_of book j i ≡ bid_value e = bid-at b book is j known some bidder read i e p q r in
      let net_h : net_of book j h ≡ other.net = net-at b book is j known some bidder read h other nets more was.1.inside other_is in
      let net_i : net_of book j i ≡ e.net = net-at b book is j known some bidder read i e nets p q r in
      record {
        earlier = omega (arith, was.0);
        smaller = subst (λ (x : BookBid). IsTrue (is_within x.lots (lots_of book j i))) (sym bid_h)
            (subst (λ (x : BookBid). IsTrue (is_within other.bid.package x.lots)) (sym bid_i) (was.1.smaller e));
        worth = rw (net_h, net_i) (was.1.worth e);
      }
