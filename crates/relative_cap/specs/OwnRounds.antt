-- The rounds of a history as one bidder has them, and its entries.
use Rattle.std.specs.Prelude.{ℕ, ◌+◌, ◌-◌, ◌≤◌, ◌<◌, List, length, map, slice_index, if◌then◌else◌}
use Rattle.auction_model.specs.Book.{BookBid}
use Rattle.auction_model.specs.Package.{cost_of}
use Rattle.auction_model.specs.PackageTests.{is_same}
use Rattle.auction_rules.specs.Rounds.{OwnRound}
use Rattle.auction_rules.specs.State.{Round, own_of}
use Rattle.lots.specs.declared.«package».Bid.{Bid}
use Rattle.clock_stage.specs.Kept.{closed_round}

-- the rounds of bidder j
abbrev pub rounds_of : ℕ → List Round → List OwnRound
rounds_of j history = map (own_of j) history

-- round r as bidder j has it
abbrev pub own_in : List Round → ℕ → ℕ → OwnRound
own_in history j r = own_of j (closed_round history r)

-- what bidder j is eligible for at the start of round r
abbrev pub eligibility_in : List Round → ℕ → ℕ → ℕ
eligibility_in history j r = slice_index (closed_round history r).eligibility (j - 1)

-- round r is the greatest at whose start bidder j is eligible for that many points
pub record IsConstraining (needed : ℕ) (history : List Round) (j r : ℕ) : Type 0 where
  pub first : 1 ≤ r
  pub last : r ≤ length history
  pub enough : needed ≤ eligibility_in history j r
  pub later : (s : ℕ) → r < s → s ≤ length history → eligibility_in history j s < needed

-- an entry of a list
abbrev pub bid_value : Bid → BookBid
bid_value b = record { lots = b.«package»; amount = b.amount }

-- the amount of a bid if it is for the package, and else 0
abbrev pub amount_for : List ℕ → BookBid → ℕ
amount_for lots b = if is_same b.lots lots then b.amount else 0

-- what a package may cost by a round with this highest amount for what was held in it
abbrev pub cap_at : ℕ → OwnRound → List ℕ → ℕ
cap_at high r lots = high + cost_of r.prices lots - cost_of r.prices r.held

-- the package of an entry
abbrev pub entry_lots : Bid → List ℕ
entry_lots b = b.«package»
