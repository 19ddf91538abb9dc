-- What a cap is asked of.
use Rattle.std.specs.Prelude.{◌≡◌, ℕ, ◌≤◌, List, length}
use Rattle.std.specs.List.{All}
use Rattle.limits.specs.declared.TheConstants.{MOST_AMOUNT, MOST_POINTS}
use Rattle.auction_rules.specs.State.{Round}
use Rattle.lots.specs.declared.«package».Bid.{Bid}
use Rattle.auction_model.specs.Package.{cost_of}
use Rattle.clock_stage.specs.Kept.{IsHeld, bidders_in, categories_in}
use Rattle.relative_cap.specs.OwnRounds.{eligibility_in}

-- the history has a round, and bidder j
pub record IsBidderOf (history : List Round) (j : ℕ) : Type 0 where
  pub some : 1 ≤ length history
  pub first : 1 ≤ j
  pub last : j ≤ bidders_in history

-- points for each category of the history
pub record ArePoints (history : List Round) (points : List ℕ) : Type 0 where
  pub count : length points ≡ categories_in history
  pub most : All (λ p. p ≤ MOST_POINTS) points

-- an entry of that many categories
pub record IsEntry (categories : ℕ) (b : Bid) : Type 0 where
  pub held : IsHeld categories b.«package»
  pub amount : b.amount ≤ MOST_AMOUNT

-- bidder j was eligible in round 1 for the points of the entry
abbrev pub IsEligible : List ℕ → List Round → ℕ → Bid → Type 0
IsEligible points history j b = cost_of points b.«package» ≤ eligibility_in history j 1
