-- The search for the coalition that blocks a point most: its conditions, and what it answers.
use Rattle.std.specs.Prelude.{◌≡◌, ℕ, ◌^◌, ◌<◌, ◌≤◌, List, ℤ, pos, ◌≤ℤ◌, ◌<ℤ◌, ⊤}
use Rattle.auction_model.specs.Market.{Market}
use Rattle.auction_model.specs.Greatest.{IsFirstGreatest}
use Rattle.auction_model.specs.Lowered.{of_bidder}
use Rattle.auction_model.specs.Prices.{Point, paid}
use Rattle.auction_model.specs.PricingRun.{BidderBlock, IsBlockOf}
use Rattle.choices.specs.Lowering.{CanLower}
use Rattle.choices.specs.declared.chooser.Found.{Found}
use Rattle.core_laws.specs.Winners.{winners_in}
use Rattle.core_laws.specs.Surplus.{surpluses_of, lowered_sum, AsksWinnersOnly}
use Rattle.core_laws.specs.Rows.{row_in, HasWinners}
use Rattle.blocking.specs.declared.look.Looked.{Looked}
use Rattle.blocking.specs.declared.look.Looked.TheVariants.{Free, Block as Blocked}
use Rattle.blocking.specs.declared.look.Block.{Block}

-- a payment for each bidder, times the denominator, as a point
abbrev pub payments : ℤ → List ℤ → Point
payments den at = record { den = den; at = at }

-- One payment for each bidder, none below 0, and 0 for losers; there are at most 16 winners, and no sum leaves the range.
-- The choice z is the winning one.
pub record CanLook (m : Market) (z : List ℕ) (den : ℤ) (at : List ℤ) : Type 0 where
  pub asks : AsksWinnersOnly m z (payments den at)
  pub not_negative : (j : ℕ) → 0 < j → j ≤ m.bidders → pos 0 ≤ℤ of_bidder at j
  pub winners : winners_in z ≤ 16
  pub range : paid m (payments den at) <ℤ pos (2 ^ 120)
  pub lowered : CanLower m z den (surpluses_of m z den at)

-- the property of what was found, if the point is free
abbrev pub IfFree : {T : Type 0} → Looked T → (Found T → Type 0) → Type 0
IfFree (Free f) p = p f
IfFree (Blocked b) p = ⊤

-- the property of the block, if one was found
abbrev pub IfBlocked : {T : Type 0} → Looked T → (Block → Type 0) → Type 0
IfBlocked (Free f) p = ⊤
IfBlocked (Blocked b) p = p b

-- the first choice of greatest lowered sum for the surpluses of the point, with that sum
pub record IsFound (m : Market) (z : List ℕ) (den : ℤ) (at : List ℤ) (choice : List ℕ) (total : ℤ) : Type 0 where
  pub first : IsFirstGreatest m.allowed (lowered_sum m z (payments den at)) choice
  pub sum : total ≡ lowered_sum m z (payments den at) choice

-- the block of a turn, its row over the bidders
abbrev pub block_of : List ℕ → Block → BidderBlock
block_of z b = record { choice = b.choice; row = row_in z b.row; excess = b.excess }

-- the block that a turn takes at the point, with a row that has a winner
pub record IsBlock (m : Market) (z : List ℕ) (den : ℤ) (at : List ℤ) (b : Block) : Type 0 where
  pub block : IsBlockOf m z (payments den at) (block_of z b)
  pub members : HasWinners z b.row.members
