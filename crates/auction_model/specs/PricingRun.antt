-- A pricing run: turn after turn a point that meets the rows so far, and the row that blocks it, until none does. (Day and
-- Raghavan, Fair payments for efficient allocations in public sector combinatorial auctions, Management Science 53, 2007:
-- core constraint generation.)
use Rattle.std.specs.Prelude.{◌≡◌, ℕ, zero, suc, ◌<◌, ◌≤◌, ◌==◌, Bool, IsFalse, Option, MatchOption, List, [], ◌∷◌, ◌++◌, length, ℤ, pos, ◌*ℤ◌, ◌≤ℤ◌, ◌<ℤ◌}
use Rattle.std.specs.List.{AllByRecursion}
use Rattle.auction_model.specs.Market.{Market, uses}
use Rattle.auction_model.specs.Greatest.{IsWinning}
use Rattle.auction_model.specs.Lowered.{of_bidder}
use Rattle.auction_model.specs.Prices.{Point, sum_over, AreVickreyPrices, HasLeastSum, IsNearestTo}
use Rattle.auction_model.specs.Blocks.{row_bound, IsGreatestExcess, IsTakenBlock}

-- a set of winners, and the least that they have to pay together
pub record BidderRow : Type 0 where
  pub members : ℕ → Bool
  pub bound : ℤ

-- the members of the row pay at least its bound
abbrev pub MeetsRow : Market → Point → BidderRow → Type 0
MeetsRow m p row = (p.den *ℤ row.bound) ≤ℤ sum_over row.members (of_bidder p.at) m.bidders

-- a point that asks nothing of losers and meets all rows
pub record MeetsBidderRows (m : Market) (z : List ℕ) (rows : List BidderRow) (p : Point) : Type 0 where
  pub den_positive : pos 1 ≤ℤ p.den
  pub bidders : length p.at ≡ m.bidders
  pub losers : (j : ℕ) → 0 < j → j ≤ m.bidders → IsFalse (uses z j) → of_bidder p.at j ≡ pos 0
  pub each : AllByRecursion (MeetsRow m p) rows

-- the point of a turn: of the points of least sum that meet the rows, the one nearest to the prices v by the weights
pub record IsTurnPoint (m : Market) (w : ℕ → ℕ) (z : List ℕ) (v : ℕ → ℤ) (rows : List BidderRow) (p : Point) : Type 0 where
  pub meets : MeetsBidderRows m z rows p
  pub least : HasLeastSum m (MeetsBidderRows m z rows) p
  pub nearest : IsNearestTo m w v (MeetsBidderRows m z rows) p

-- the first rows, after k bidders: the single winners, in order, each with its price
abbrev pub single_rows : (ℕ → ℤ) → ℕ → List ℕ → List BidderRow
single_rows v k [] = []
single_rows v k (zero ∷ z) = single_rows v (suc k) z
single_rows v k (suc i ∷ z) = record { members = λ j. j == suc k; bound = v (suc k) } ∷ single_rows v (suc k) z

-- what blocks the point of a turn: a choice, the row that it gives, and its excess, times the denominator of the point
pub record BidderBlock : Type 0 where
  pub choice : List ℕ
  pub row : BidderRow
  pub excess : ℤ

pub record BidderTurn : Type 0 where
  pub point : Point
  pub block : Option BidderBlock

pub record IsBlockOf (m : Market) (z : List ℕ) (p : Point) (b : BidderBlock) : Type 0 where
  pub taken : IsTakenBlock m z p b.choice b.row.members b.excess
  pub some : pos 0 <ℤ b.excess
  pub bound : b.row.bound ≡ row_bound m z b.row.members b.choice

-- The turns go on from these rows: each has the point of the rows so far. If no excess is above 0, it is the last. Else
-- its block adds one row to the next turn.
abbrev pub GoOn : Market → (ℕ → ℕ) → List ℕ → (ℕ → ℤ) → List BidderRow → List BidderTurn → Type 0
GoOn m w z v rows [] = ⊥
GoOn m w z v rows (t ∷ turns) =
    IsTurnPoint m w z v rows t.point
    × MatchOption t.block ((turns ≡ []) × IsGreatestExcess m z t.point (pos 0)) (λ b. IsBlockOf m z t.point b
    × GoOn m w z v (rows ++ b.row ∷ []) turns)

-- the turns of pricing the winning choice z with these weights, from the rows of the single winners with their Vickrey
-- prices
pub record IsPricingRun (m : Market) (w : ℕ → ℕ) (z : List ℕ) (turns : List BidderTurn) : Type 0 where
  pub winning : IsWinning m z
  pub turns_of : (v : ℕ → ℤ) → AreVickreyPrices m z v → GoOn m w z v (single_rows v 0 z) turns
