-- What is printed of prices: a line for each winner in order, the net value, and the revenue. All amounts are gross: the reserve
-- of a winner's package is added to its Vickrey price and to what it pays.
use Rattle.std.specs.Prelude.{◌≡◌, ℕ, zero, suc, List, [], ◌∷◌, ◌++◌, codes, ℤ, pos, ◌+ℤ◌, ◌*ℤ◌}
use Rattle.std.specs.Fmt.{decimal, signed_decimal}
use Rattle.auction_model.specs.Package.{cost_of}
use Rattle.auction_model.specs.Book.{Book, BookBid, bid_of, bidder_of, market_of}
use Rattle.auction_model.specs.Market.{number_of, value_of}
use Rattle.auction_model.specs.Lowered.{of_bidder}
use Rattle.auction_model.specs.Prices.{Point, everyone, sum_over}
use Rattle.line_format.specs.Decimals.{decimals_text}
use Rattle.print_grammar.specs.WinText.{net_line}
use Rattle.print_grammar.specs.Fractions.{IsFractionText}

-- the reserve of the package that bid i of bidder j asks for
abbrev pub reserve_of : Book → ℕ → ℕ → ℤ
reserve_of book j i = pos (cost_of book.reserves (bid_of book j i).lots)

-- what bidder j pays, gross, times the denominator
abbrev pub gross_of : Book → List ℕ → Point → ℕ → ℤ
gross_of book z p j = of_bidder p.at j +ℤ (p.den *ℤ reserve_of book j (number_of z j))

-- the line of a winner: its name, its package, its bid, its Vickrey price and what it pays
abbrev pub priced_line : List ℕ → BookBid → ℤ → List ℕ → List ℕ
priced_line name bid vickrey pays =
    codes "winner " ++ name ++ decimals_text bid.lots ++ codes " bid " ++ decimal bid.amount ++ codes " vickrey " ++ signed_decimal vickrey ++ codes " pays " ++ pays ++ codes "\n"

-- the lines of the winners after bidder k; v are the Vickrey prices, net
abbrev pub ArePricedLines : Book → List ℕ → (ℕ → ℤ) → Point → ℕ → List ℕ → List ℕ → Type 0
ArePricedLines book z v p k [] text = text ≡ []
ArePricedLines book z v p k (zero ∷ c) text = ArePricedLines book z v p (suc k) c text
ArePricedLines book z v p k (suc i ∷ c) text =
    (pays rest : List ℕ) × IsFractionText (gross_of book z p (suc k)) p.den pays
    × ArePricedLines book z v p (suc k) c rest
    × (text ≡ priced_line (bidder_of book (suc k)).name (bid_of book (suc k) (suc i)) (v (suc k) +ℤ reserve_of book (suc k) (suc i)) pays ++ rest)

-- what all winners pay, gross, times the denominator
abbrev pub revenue_of : Book → List ℕ → Point → ℕ → ℤ
revenue_of book z p bidders = sum_over everyone (gross_of book z p) bidders

-- the whole text of the prices p of the winners of z
abbrev pub IsPriceText : Book → List ℕ → (ℕ → ℤ) → Point → List ℕ → Type 0
IsPriceText book z v p text =
    (lines revenue : List ℕ) × ArePricedLines book z v p 0 z lines
    × IsFractionText (revenue_of book z p (market_of book).bidders) p.den revenue
    × (text ≡ lines ++ net_line (value_of (market_of book) z) ++ codes "revenue " ++ revenue ++ codes "\n")
