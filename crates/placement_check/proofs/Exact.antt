-- Exact tables of the amounts, without the bids of a bidder, and of the lowered worths obey the rules.
use Rattle.std.specs.Prelude.{◌≡◌, ℕ, List, length, ℤ, refl}
use Rattle.auction_model.specs.Lowered.{lowered}
use Rattle.core_laws.specs.Surplus.{surpluses_of}
use Rattle.cert_grammar.specs.Certificate.{CertValue}
use Rattle.cert_soundness.specs.MarketTests.{PaysWithinBids}
use Rattle.slot_places.specs.Board.{board_of, board_without, market_of_slots}
use Rattle.slot_places.specs.SetTable.{IsSetTable}
use Rattle.slot_places.specs.Slots.{SlotList, amount_of}
use Rattle.slot_places.proofs.MarketLaws.{slots-idle}
use Rattle.slot_places.proofs.NumberLaws.{idle-always}
use Rattle.slot_places.proofs.SameLaws.{slots-ask}
use Rattle.placement_check.specs.PlaceTests.{ObeysSets}
use Rattle.cert_soundness.specs.MarketPrices.{lowered_in}
use Rattle.cert_soundness.proofs.Gains.{bid-counted, none-counted}
use Rattle.placement_check.proofs.SetExact.{set-obeys, sets-same}

-- the exact table of the amounts obeys the rules
pub plain-obeys : (slots : SlotList) (table : List (List ℤ)) → IsSetTable (board_of slots) (amount_of slots) table
    → ObeysSets (board_of slots) (amount_of slots) table
plain-obeys slots table exact = set-obeys (board_of slots) (slots-ask slots 0) (slots-idle slots) (amount_of slots) table exact (λ j some low. refl)

-- the exact table without a bidder's bids obeys the rules without them
pub without-obeys : (slots : SlotList) (j : ℕ) (table : List (List ℤ)) → IsSetTable (board_without slots j) (amount_of slots) table
    → ObeysSets (board_without slots j) (amount_of slots) table
without-obeys slots j table exact = set-obeys (board_without slots j) (slots-ask slots j) (idle-always slots j) (amount_of slots) table exact
    (λ h some low. refl)

-- if payments are within the bids, the exact table of the lowered worths obeys the rules for these
pub lowered-obeys : (slots : SlotList) (c : CertValue) (table : List (List ℤ)) → length c.pay ≡ length slots.bidders
    → ((place : ℕ) → PaysWithinBids (market_of_slots slots) c place)
    → IsSetTable (board_of slots) (lowered c.den (amount_of slots) (surpluses_of (market_of_slots slots) c.choice c.den c.pay)) table
    → ObeysSets (board_of slots) (lowered_in (market_of_slots slots) c) table
lowered-obeys slots c table pay_is pays exact =
    let m = market_of_slots slots in
    let counts = lowered c.den (amount_of slots) (surpluses_of m c.choice c.den c.pay) in
    sets-same (board_of slots) counts (lowered_in m c) table (bid-counted m (λ j. refl) c pay_is pays)
    (set-obeys (board_of slots) (slots-ask slots 0) (slots-idle slots) counts table exact (λ j some low. none-counted m (λ h. refl) c pay_is pays j))
