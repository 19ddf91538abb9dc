-- What is printed of each winner, gross.
use Rattle.std.specs.Prelude.{◌≡◌, ℕ, ◌+◌, ◌<◌, ◌≤◌, ◌^◌, length, List, [], ◌∷◌, ◌++◌, pos, ◌+ℤ◌, unsigned_abs}
use Rattle.auction_model.specs.Book.{Book, bid_of, bidder_of, bids_of}
use Rattle.auction_model.specs.Market.{number_of}
use Rattle.auction_model.specs.Prices.{Point}
use Rattle.choices.specs.declared.chooser.Single.{Single}
use Rattle.print_grammar.specs.Prices.{reserve_of, gross_of, priced_line}
use Rattle.outcome.specs.declared.prices.WinnerPrice.{WinnerPrice}
use Rattle.outcome.specs.Fractions.{IsFractionOf, fraction_text}

-- what is printed of this winner of z
pub record IsWinnerPrice (book : Book) (z : List ℕ) (p : Point) (s : Single) (price : WinnerPrice) : Type 0 where
  pub bidder_is : price.bidder ≡ s.winner
  pub bid_is : price.bid ≡ number_of z s.winner
  pub reserve_is : pos price.reserve ≡ reserve_of book s.winner (number_of z s.winner)
  pub vickrey_is : price.vickrey ≡ s.price +ℤ reserve_of book s.winner (number_of z s.winner)
  pub vickrey_small : unsigned_abs price.vickrey ≤ 2 ^ 48
  pub pays_is : IsFractionOf (gross_of book z p s.winner) p.den price.pays

-- of these winners, in order
abbrev pub AreWinnerPrices : Book → List ℕ → Point → List Single → List WinnerPrice → Type 0
AreWinnerPrices book z p [] prices = prices ≡ []
AreWinnerPrices book z p (s ∷ ss) [] = ⊥
AreWinnerPrices book z p (s ∷ ss) (w ∷ ws) = IsWinnerPrice book z p s w × AreWinnerPrices book z p ss ws

-- its line
abbrev pub line_of : Book → WinnerPrice → List ℕ
line_of book price = priced_line (bidder_of book price.bidder).name (bid_of book price.bidder price.bid) price.vickrey (fraction_text price.pays)

abbrev pub lines_of : Book → List WinnerPrice → List ℕ
lines_of book [] = []
lines_of book (w ∷ ws) = line_of book w ++ lines_of book ws

-- its bidder and its bid are in the book, and its Vickrey price is small
pub record CanPrintPrice (book : Book) (price : WinnerPrice) : Type 0 where
  pub bidder_in : (0 < price.bidder) × (price.bidder ≤ length book.bidders)
  pub bid_in : (0 < price.bid) × (price.bid ≤ length (bids_of book price.bidder))
  pub vickrey_small : unsigned_abs price.vickrey ≤ 2 ^ 48

-- the reserves of all winning packages
abbrev pub reserves_of : List WinnerPrice → ℕ
reserves_of [] = 0
reserves_of (w ∷ ws) = w.reserve + reserves_of ws
