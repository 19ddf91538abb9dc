-- What is printed for a placement: a line for each bidder in the order of the placement, a line for each winner in the order of
-- the bidders, the value and the revenue. There are no reserves, so amounts are printed as they are.
use Rattle.std.specs.Prelude.{◌≡◌, ℕ, zero, suc, ◌+◌, List, [], ◌∷◌, ◌++◌, codes, length, ℤ}
use Rattle.std.specs.Fmt.{decimal, signed_decimal}
use Rattle.auction_model.specs.Lowered.{of_bidder}
use Rattle.auction_model.specs.Market.{value_of}
use Rattle.auction_model.specs.Prices.{Point, paid}
use Rattle.print_grammar.specs.Fractions.{IsFractionText}
use Rattle.slot_places.specs.Board.{market_of_slots}
use Rattle.slot_places.specs.Slots.{SlotBid, SlotList, bid_of, bidder_of, width_of}

-- the line of bidder j that is placed from this slot on
abbrev pub placed_line : SlotList → ℕ → ℕ → List ℕ
placed_line slots start j = codes "placed " ++ (bidder_of slots j).name ++ (32 ∷ decimal start) ++ (32 ∷ decimal (width_of slots j)) ++ codes "\n"

-- the lines of bidders that are laid side by side in this order from a slot on
abbrev pub placed_lines : SlotList → ℕ → List ℕ → List ℕ
placed_lines slots start [] = []
placed_lines slots start (j ∷ order) = placed_line slots start j ++ placed_lines slots (start + width_of slots j) order

-- the line of a winner: its name, the start and the amount of its bid, its Vickrey price and what it pays
abbrev pub priced_line : List ℕ → SlotBid → ℤ → List ℕ → List ℕ
priced_line name bid vickrey pays =
    codes "winner " ++ name ++ (32 ∷ decimal bid.start) ++ codes " bid " ++ decimal bid.amount ++ codes " vickrey " ++ signed_decimal vickrey ++ codes " pays " ++ pays ++ codes "\n"

-- the lines of the winners after bidder k; v are the Vickrey prices
abbrev pub ArePricedLines : SlotList → (ℕ → ℤ) → Point → ℕ → List ℕ → List ℕ → Type 0
ArePricedLines slots v p k [] text = text ≡ []
ArePricedLines slots v p k (zero ∷ c) text = ArePricedLines slots v p (suc k) c text
ArePricedLines slots v p k (suc i ∷ c) text =
    (pays rest : List ℕ) × IsFractionText (of_bidder p.at (suc k)) p.den pays × ArePricedLines slots v p (suc k) c rest
    × (text ≡ priced_line (bidder_of slots (suc k)).name (bid_of slots (suc k) (suc i)) (v (suc k)) pays ++ rest)

-- the line of the value
abbrev pub value_line : ℤ → List ℕ
value_line value = codes "value " ++ signed_decimal value ++ codes "\n"

-- The whole text of the prices p of the winners of z, if all bidders are laid side by side in this order.
pub record IsPlaceText (slots : SlotList) (order z : List ℕ) (v : ℕ → ℤ) (p : Point) (text : List ℕ) : Type 0 where
  pub lines : List ℕ
  pub are_lines : ArePricedLines slots v p 0 z lines
  pub revenue : List ℕ
  pub is_revenue : IsFractionText (paid (market_of_slots slots) p) p.den revenue
  pub whole : text ≡ placed_lines slots 1 order ++ lines ++ value_line (value_of (market_of_slots slots) z) ++ codes "revenue " ++ revenue ++ codes "\n"
