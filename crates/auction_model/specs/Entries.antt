-- A list of bids in the order of packages, with one entry put in or taken out.
use Rattle.std.specs.Prelude.{not, filter, ℕ, List, [], ◌∷◌, if◌then◌else◌}
use Rattle.auction_model.specs.Book.{BookBid}
use Rattle.auction_model.specs.PackageTests.{is_same, is_before}

-- the list with this amount for the package, in its place
abbrev pub with_entry : List ℕ → ℕ → List BookBid → List BookBid
with_entry lots amount [] = record { lots = lots; amount = amount } ∷ []
with_entry lots amount (b ∷ bids) =
    if is_same lots b.lots then record { lots = lots; amount = amount } ∷ bids
    else if is_before lots b.lots then record { lots = lots; amount = amount } ∷ b ∷ bids
    else b ∷ with_entry lots amount bids

-- the list with no entry for the package
abbrev pub without_entry : List ℕ → List BookBid → List BookBid
without_entry lots list = filter (λ b. not (is_same lots b.lots)) list
