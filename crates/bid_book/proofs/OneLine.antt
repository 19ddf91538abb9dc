-- A line says one thing: its kind and its fields.
use Rattle.std.proofs.Common.{inl, inr, ◌≡◌, ℕ, List, [], ◌∷◌, ◌++◌, get_or, refl, sym, ap, ◌∙◌, arith}
use Rattle.std.specs.Prelude.{codes}
use Rattle.std.specs.Fmt.{decimal}
use Rattle.auction_model.specs.Book.{Book, BookBid, bidder_with, with_bidders}
use Rattle.book_grammar.specs.BookForm.{IsOffer, AreReserves}
use Rattle.book_grammar.specs.BookLines.{bid_line}
use Rattle.line_format.specs.Decimals.{decimals_text}
use Rattle.bid_book.specs.Stages.{with_bid, AddsBidder, AddsBid, Adds}
use Rattle.bid_book.proofs.Numbers.{AreSmall, numbers_one, snoc_one}
use Rattle.bid_book.proofs.Spelled.{small_supply, small_reserves, small_counts}

pub record Spaced (l : List ℕ) : Type 0 where
  pub rest : List ℕ
  pub is : l ≡ 32 ∷ rest

-- the fields of counts and an amount begin with a space
pub spaced : (counts : List ℕ) (amount : ℕ) → Spaced (decimals_text (counts ++ amount ∷ []))
spaced [] amount = record { rest = decimal amount ++ []; is = refl }
spaced (c ∷ cs) amount = record { rest = decimal c ++ decimals_text (cs ++ amount ∷ []); is = refl }

-- the line of a bidder is not that of a bid
pub not_bid : (name counts : List ℕ) (amount : ℕ) → codes "bidder " ++ name ≡ codes "bid" ++ decimals_text (counts ++ amount ∷ []) → ⊥
not_bid name counts amount is =
    let sp = spaced counts amount in
    let e : codes "bidder " ++ name ≡ codes "bid" ++ 32 ∷ sp.rest = is ∙ ap (λ (l : List ℕ). codes "bid" ++ l) sp.is in cc

-- the last line is no bidder's
pub end_no_bidder : (l name : List ℕ) → l ≡ codes "end" → l ≡ codes "bidder " ++ name → ⊥
end_no_bidder l name a b = omega (arith, ap (λ (x : List ℕ). get_or x 0 0) (sym a ∙ b))

-- the last line is no bid's
pub end_no_bid : (l fields : List ℕ) → l ≡ codes "end" → l ≡ codes "bid" ++ fields → ⊥
end_no_bid l fields a b = omega (arith, ap (λ (x : List ℕ). get_or x 0 0) (sym a ∙ b))

-- the last line adds neither a bidder nor a bid to a book
pub end_adds_none : (book new : Book) (l : List ℕ) → l ≡ codes "end" → Adds book new l → ⊥
end_adds_none book new l last (inl adds) = end_no_bidder l adds.name last adds.spelled
end_adds_none book new l last (inr adds) = end_no_bid l (decimals_text (adds.bid.lots ++ adds.bid.amount ∷ [])) last adds.spelled

-- a line states one supply
pub supplies_one : (l a b : List ℕ) → IsOffer a → IsOffer b → l ≡ codes "supply" ++ decimals_text a → l ≡ codes "supply" ++ decimals_text b → a ≡ b
supplies_one l a b sa sb la lb =
    let e : codes "supply" ++ decimals_text a ≡ codes "supply" ++ decimals_text b = sym la ∙ lb in
    let same : decimals_text a ≡ decimals_text b = cc in
    numbers_one a b (small_supply a sa.each) (small_supply b sb.each) same

-- a line states one list of reserves
pub reserves_one : (supply l a b : List ℕ) → AreReserves supply a → AreReserves supply b → l ≡ codes "reserve" ++ decimals_text a
    → l ≡ codes "reserve" ++ decimals_text b → a ≡ b
reserves_one supply l a b ra rb la lb =
    let e : codes "reserve" ++ decimals_text a ≡ codes "reserve" ++ decimals_text b = sym la ∙ lb in
    let same : decimals_text a ≡ decimals_text b = cc in
    numbers_one a b (small_reserves a ra.each) (small_reserves b rb.each) same

-- with the bidder of a line a book becomes one other book
pub two_bidders : (old a b : Book) (l : List ℕ) → AddsBidder old a l → AddsBidder old b l → a ≡ b
two_bidders old a b l x y =
    let e : codes "bidder " ++ x.name ≡ codes "bidder " ++ y.name = sym x.spelled ∙ y.spelled in
    let same : x.name ≡ y.name = cc in
    x.new_is ∙ ap (λ (n : List ℕ). with_bidders old (old.bidders ++ bidder_with n [] ∷ [])) same ∙ sym y.new_is

-- a line states one bid, if the numbers are below 2 ^ 120
pub bid_one : (l : List ℕ) (a b : BookBid) → AreSmall (a.lots ++ a.amount ∷ []) → AreSmall (b.lots ++ b.amount ∷ []) → l ≡ (bid_line 0 a).0
    → l ≡ (bid_line 0 b).0 → a ≡ b
bid_one l a b sa sb la lb =
    let e : codes "bid" ++ decimals_text (a.lots ++ a.amount ∷ []) ≡ codes "bid" ++ decimals_text (b.lots ++ b.amount ∷ []) = sym la ∙ lb in
    let same : decimals_text (a.lots ++ a.amount ∷ []) ≡ decimals_text (b.lots ++ b.amount ∷ []) = cc in
    let parts = snoc_one a.lots b.lots a.amount b.amount (numbers_one (a.lots ++ a.amount ∷ []) (b.lots ++ b.amount ∷ []) sa sb same) in
    λ i. record { lots = parts.0 i; amount = parts.1 i }

-- with the bid of a line a book of an offer becomes one other book
pub two_bids : (old a b : Book) (l : List ℕ) → IsOffer old.supply → AddsBid old a l → AddsBid old b l → a ≡ b
two_bids old a b l supply x y =
    let small_x : AreSmall (x.bid.lots ++ x.bid.amount ∷ []) = small_counts x.bid.lots old.supply x.bid.amount x.valid.categories x.valid.within supply.each
    x.valid.top in
    let small_y : AreSmall (y.bid.lots ++ y.bid.amount ∷ []) = small_counts y.bid.lots old.supply y.bid.amount y.valid.categories y.valid.within supply.each
    y.valid.top in
    x.new_is ∙ ap (with_bid old) (bid_one l x.bid y.bid small_x small_y x.spelled y.spelled) ∙ sym y.new_is

-- a line, be it of a bidder or of a bid, makes one new book of a book of an offer
pub new_one : (old a b : Book) (l : List ℕ) → IsOffer old.supply → Adds old a l → Adds old b l → a ≡ b
new_one old a b l supply (inl x) (inl y) = two_bidders old a b l x y
new_one old a b l supply (inl x) (inr y) = absurd (not_bid x.name y.bid.lots y.bid.amount (sym x.spelled ∙ y.spelled))
new_one old a b l supply (inr x) (inl y) = absurd (not_bid y.name x.bid.lots x.bid.amount (sym y.spelled ∙ x.spelled))
new_one old a b l supply (inr x) (inr y) = two_bids old a b l supply x y
