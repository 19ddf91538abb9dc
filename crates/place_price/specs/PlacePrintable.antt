-- The certificates of a placement whose outcome can be printed: words of private contracts.
use Rattle.std.specs.Prelude.{◌≡◌, ℕ, zero, suc, ◌+◌, ◌<◌, ◌≤◌, List, [], length, drop, ℤ, pos, ◌≤ℤ◌}
use Rattle.std.specs.List.{AllByRecursion}
use Rattle.auction_model.specs.Lowered.{of_bidder}
use Rattle.auction_model.specs.Market.{number_of, value_of}
use Rattle.auction_model.specs.Prices.{Point}
use Rattle.placement_cert.specs.declared.certificate.PlaceCertificate.{PlaceCertificate}
use Rattle.slot_places.specs.Board.{market_of_slots}
use Rattle.print_grammar.specs.Fractions.{IsFractionText}
use Rattle.slot_places.specs.Slots.{SlotList, bid_of, bidder_of, bids_of}
use Rattle.place_price.specs.PlaceText.{priced_line}

-- the number of a bidder
abbrev pub IsBidder : SlotList → ℕ → Type 0
IsBidder slots j = (0 < j) × (j ≤ length slots.bidders)

-- it is one of these slots; its order and its choice name bidders and bids that there are; the value is the choice's, and no
-- payment is below 0
pub record CanPrint (slots : SlotList) (c : PlaceCertificate) : Type 0 where
  pub shape : length c.choice ≡ length slots.bidders
  pub order : AllByRecursion (IsBidder slots) c.order
  pub count : length c.order ≡ length slots.bidders
  pub known : (j : ℕ) → 0 < j → j ≤ length slots.bidders → number_of c.choice j ≤ length (bids_of slots j)
  pub value : value_of (market_of_slots slots) c.choice ≡ c.value
  pub den_positive : pos 1 ≤ℤ c.den
  pub not_negative : (j : ℕ) → 0 < j → j ≤ length slots.bidders → pos 0 ≤ℤ of_bidder c.pay j

-- these are the numbers of a choice after that many bidders
pub record IsRestOf (c : List ℕ) (before : ℕ) (numbers : List ℕ) : Type 0 where
  pub numbers_are : numbers ≡ drop before c
  pub count : before + length numbers ≡ length c

-- the line of bidder j with this number in the choice, and none at 0
abbrev pub IsLineOf : SlotList → (ℕ → ℤ) → Point → ℕ → ℕ → List ℕ → Type 0
IsLineOf slots v p j zero line = line ≡ []
IsLineOf slots v p j (suc i) line =
    (pays : List ℕ) × IsFractionText (of_bidder p.at j) p.den pays
    × (line ≡ priced_line (bidder_of slots j).name (bid_of slots j (suc i)) (v j) pays)
