-- What each clock and each history keep.
use Rattle.std.specs.Prelude.{◌≡◌, ℕ, ◌≤◌, ◌<◌, true, List, [], length, sum, slice_index_or, ◌-◌}
use Rattle.std.specs.List.{All}
use Rattle.limits.specs.declared.TheConstants.{MOST_BIDDERS, MOST_CATEGORIES, MOST_LOTS, MOST_PRICE, MOST_ROUNDS}
use Rattle.auction_rules.specs.Terms.{Terms}
use Rattle.auction_rules.specs.State.{Round}
use Rattle.clock_stage.specs.ClockState.{ClockState, round_with}

-- a package that a bidder may hold if there are that many categories
pub record IsHeld (categories : ℕ) (lots : List ℕ) : Type 0 where
  pub count : length lots ≡ categories
  pub few : sum lots ≤ MOST_LOTS

-- a round of that many bidders and that many categories
pub record IsRound (bidders categories : ℕ) (r : Round) : Type 0 where
  pub prices : length r.prices ≡ categories
  pub most_price : All (λ p. p ≤ MOST_PRICE) r.prices
  pub eligibility : length r.eligibility ≡ bidders
  pub held : length r.held ≡ bidders
  pub packages : All (IsHeld categories) r.held

abbrev pub no_round : Round
no_round = round_with [] [] []

-- round r of these; rounds are numbered from 1
abbrev pub closed_round : List Round → ℕ → Round
closed_round rounds r = slice_index_or rounds (r - 1) no_round

-- how many bidders and how many categories the rounds have, by the first of them
abbrev pub bidders_in : List Round → ℕ
bidders_in rounds = length (closed_round rounds 1).held

abbrev pub categories_in : List Round → ℕ
categories_in rounds = length (closed_round rounds 1).prices

-- what a history keeps: no more rounds than there may be, all of as many bidders and categories
pub record IsHistory (rounds : List Round) : Type 0 where
  pub few : length rounds ≤ MOST_ROUNDS
  pub each : All (IsRound (bidders_in rounds) (categories_in rounds)) rounds

-- the invariant of a clock: its rounds have as many bidders and categories as the posted one, within the limits
pub record IsClock (clock : ClockState) : Type 0 where
  pub few_bidders : length clock.posted.held ≤ MOST_BIDDERS
  pub few_categories : length clock.posted.prices ≤ MOST_CATEGORIES
  pub posted : IsRound (length clock.posted.held) (length clock.posted.prices) clock.posted
  pub closed : All (IsRound (length clock.posted.held) (length clock.posted.prices)) clock.rounds
  pub few : length clock.rounds ≤ MOST_ROUNDS
  pub room : clock.running ≡ true → length clock.rounds < MOST_ROUNDS

-- the clock has the bidders and the categories of the award
pub record IsFor (terms : Terms) (clock : ClockState) : Type 0 where
  pub bidders : length clock.posted.held ≡ length terms.bidders
  pub categories : length clock.posted.prices ≡ length terms.supply
