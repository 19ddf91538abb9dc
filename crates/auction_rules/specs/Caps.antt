-- Relative caps, over the clock rounds of one bidder.
use Rattle.std.specs.Prelude.{ℕ, zero, suc, ◌+◌, ◌-◌, ◌≤◌, ◌<◌, max, min, Bool, true, false, List, [], ◌∷◌, ◌++◌, Option, Some, None, map, length, slice_index_or, nat_le, if◌then◌else◌}
use Rattle.auction_model.specs.Book.{BookBid}
use Rattle.auction_model.specs.Package.{cost_of}
use Rattle.auction_model.specs.PackageTests.{is_empty, is_same}
use Rattle.auction_rules.specs.Step.{last_or}
use Rattle.auction_rules.specs.Rounds.{OwnRound}

-- a round that is none
abbrev pub no_round : OwnRound
no_round = record { prices = []; eligibility = 0; held = [] }

-- the last of the rounds
abbrev pub last_round : List OwnRound → OwnRound
last_round rounds = last_or no_round rounds

-- the rounds whose eligibility is enough for the points
abbrev pub enough : ℕ → List OwnRound → List OwnRound
enough points [] = []
enough points (r ∷ rounds) = if nat_le points r.eligibility then r ∷ enough points rounds else enough points rounds

-- the constraining round: the last one whose eligibility is enough for the points
abbrev pub constraining : ℕ → List OwnRound → OwnRound
constraining points rounds = last_round (enough points rounds)

-- the numbers of the rounds whose eligibility is enough for the points, where the first of the rounds has the given number
abbrev pub enough_numbers : ℕ → ℕ → List OwnRound → List ℕ
enough_numbers points number [] = []
enough_numbers points number (r ∷ rounds) =
    if nat_le points r.eligibility then number ∷ enough_numbers points (suc number) rounds else enough_numbers points (suc number) rounds

-- the number of the constraining round, and 0 if there is none
abbrev pub constraining_number : ℕ → List OwnRound → ℕ
constraining_number points rounds = last_or 0 (enough_numbers points 1 rounds)

-- the round of this number; rounds are numbered from 1
abbrev pub round_at : List OwnRound → ℕ → OwnRound
round_at rounds zero = no_round
round_at rounds (suc k) = slice_index_or rounds k no_round

-- the round of this number is the last one whose eligibility is enough for the points
pub record IsLastEnough (points : ℕ) (rounds : List OwnRound) (number : ℕ) : Type 0 where
  pub some : 1 ≤ number
  pub there : number ≤ length rounds
  pub enough : points ≤ (round_at rounds number).eligibility
  pub later : (k : ℕ) → number < k → k ≤ length rounds → (round_at rounds k).eligibility < points

-- the clock bid of a round
abbrev pub clock_bid : OwnRound → BookBid
clock_bid r = record { lots = r.held; amount = cost_of r.prices r.held }

-- the greatest amount for the package in the list, and 0 if there is none
abbrev pub greatest : List ℕ → List BookBid → ℕ
greatest lots [] = 0
greatest lots (b ∷ bids) = max (if is_same b.lots lots then b.amount else 0) (greatest lots bids)

-- the greatest amount for the package among the clock bids and the list, and 0 for the empty package
abbrev pub highest : List OwnRound → List BookBid → List ℕ → ℕ
highest rounds list lots = if is_empty lots then 0 else greatest lots (map clock_bid rounds ++ list)

-- what a package may cost by the prices of a round: the highest amount for the package held in it, and the price of the
-- difference
abbrev pub cap_by : List OwnRound → List BookBid → OwnRound → List ℕ → ℕ
cap_by rounds list r lots = highest rounds list r.held + cost_of r.prices lots - cost_of r.prices r.held

-- the cap of a package other than the one held in the final round: the cap by its constraining round, and with a final cap the
-- lesser of this and the cap by the final round
abbrev pub cap_among : Bool → List ℕ → List OwnRound → List BookBid → List ℕ → ℕ
cap_among true points rounds list lots =
    min (cap_by rounds list (constraining (cost_of points lots) rounds) lots) (cap_by rounds list (last_round rounds) lots)
cap_among false points rounds list lots = cap_by rounds list (constraining (cost_of points lots) rounds) lots

-- None for the package held in the final round, which has no cap
abbrev pub cap_of : Bool → List ℕ → List OwnRound → List BookBid → List ℕ → Option ℕ
cap_of final_cap points rounds list lots =
    if is_same lots (last_round rounds).held then None else Some (cap_among final_cap points rounds list lots)

-- the amount is above the cap, if there is one
abbrev pub excess_cap : Option ℕ → ℕ → Option ℕ
excess_cap None amount = None
excess_cap (Some cap) amount = if nat_le amount cap then None else Some cap

-- an entry that is above its cap, or else what comes later
abbrev pub excess_or : ℕ → Option ℕ → Option (ℕ × ℕ) → Option (ℕ × ℕ)
excess_or entry None later = later
excess_or entry (Some cap) later = Some (entry, cap)

-- the first entry of the bids that is above its cap: its number, counted from the given one, and the cap. The caps are over the
-- whole list
abbrev pub first_excess : (List ℕ → Option ℕ) → ℕ → List BookBid → Option (ℕ × ℕ)
first_excess cap entry [] = None
first_excess cap entry (b ∷ bids) = excess_or entry (excess_cap (cap b.lots) b.amount) (first_excess cap (suc entry) bids)

-- the first entry of the list that is above its cap over the list
abbrev pub list_fault : Bool → List ℕ → List OwnRound → List BookBid → Option (ℕ × ℕ)
list_fault final_cap points rounds list = first_excess (cap_of final_cap points rounds list) 1 list
