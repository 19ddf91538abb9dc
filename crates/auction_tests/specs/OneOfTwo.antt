-- A market for the tests: two bidders have one bid each, worth 5 and 3, and at most one of them wins.
use Rattle.std.specs.Prelude.{ℕ, zero, suc, ◌+◌, ◌==◌, Bool, false, nat_le, List, [], ◌∷◌, ℤ, pos, if◌then◌else◌}
use Rattle.auction_model.specs.Market.{Market}

-- one number for each of the two, not both of them above 0
abbrev pub at_most_one : List ℕ → Bool
at_most_one [] = false
at_most_one (a ∷ []) = false
at_most_one (a ∷ b ∷ []) = nat_le (a + b) 1
at_most_one (a ∷ b ∷ e ∷ c) = false

-- what the bids are worth
abbrev pub worth_of : ℕ → ℕ → ℤ
worth_of j zero = pos 0
worth_of j (suc i) = if j == 1 then pos 5 else pos 3

-- the market of both
abbrev pub one_of_two : Market
one_of_two = record { bidders = 2; bids = λ j. 1; allowed = at_most_one; worth = worth_of }

-- the winning choice
abbrev pub first_wins : List ℕ
first_wins = 1 ∷ 0 ∷ []
