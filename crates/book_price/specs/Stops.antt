-- Why a book is not priced.
use Rattle.std.specs.Prelude.{◌≡◌, ℕ, List}
use Rattle.auction_model.specs.Book.{Book, market_of}
use Rattle.auction_model.specs.Greatest.{IsWinning}
use Rattle.core_price.specs.declared.priced.PriceStop.{PriceStop}
use Rattle.core_price.specs.declared.priced.PriceStop.TheVariants.{Winners, Memory}
use Rattle.core_laws.specs.Weights.{ManyWin}
use Rattle.core_laws.specs.Winners.{winners_in}

-- the winning choice has more winners than can be priced with the weights, that many; out of memory says nothing about the
-- book
abbrev pub IsBookStop : Book → List ℕ → PriceStop → Type 0
IsBookStop book weights (Winners n) = (z : List ℕ) × IsWinning (market_of book) z × ManyWin z weights
    × (n ≡ winners_in z)
IsBookStop book weights Memory = Unit {0}
