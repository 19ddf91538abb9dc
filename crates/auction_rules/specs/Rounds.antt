-- The clock rounds, as functions of what each bidder holds in each round: `held r j` is the package of bidder j in round r,
-- both numbered from 1.
use Rattle.std.specs.Prelude.{ℕ, zero, suc, ◌-◌, List, [], ◌∷◌, ◌++◌, Option, Some, None, length, nat_le, ◌==◌, if◌then◌else◌}
use Rattle.std.specs.Option.{option_or}
use Rattle.auction_rules.specs.declared.Stage.{Stage}
use Rattle.auction_rules.specs.declared.Stage.TheVariants.{Clock, Sealed, Closed}
use Rattle.auction_model.specs.Package.{cost_of, is_within, together}
use Rattle.auction_rules.specs.Terms.{Terms, entrant, no_lots}
use Rattle.auction_rules.specs.Step.{stepped}

-- what f gives at 1 to n
abbrev pub listing : {A : Type 0} → (ℕ → A) → ℕ → List A
listing f zero = []
listing f (suc n) = listing f n ++ f (suc n) ∷ []

-- the sum of the packages of bidders 1 to n, where `none` is the empty package
abbrev pub sum_of : List ℕ → (ℕ → List ℕ) → ℕ → List ℕ
sum_of none packages zero = none
sum_of none packages (suc n) = together (sum_of none packages n) (packages (suc n))

-- what all bidders ask for in round r
abbrev pub demand : Terms → (ℕ → ℕ → List ℕ) → ℕ → List ℕ
demand terms held r = sum_of (no_lots terms) (held r) (length terms.bidders)

-- the next prices: each is raised by the step if the demand is above the supply
abbrev pub raised_prices : ℕ → List (ℕ × ℕ) → List ℕ → List ℕ → List ℕ → List ℕ
raised_prices tick thresholds [] d supply = []
raised_prices tick thresholds (p ∷ prices) [] supply = p ∷ prices
raised_prices tick thresholds (p ∷ prices) (n ∷ d) [] = p ∷ prices
raised_prices tick thresholds (p ∷ prices) (n ∷ d) (s ∷ supply) =
    (if nat_le n s then p else stepped tick thresholds p (n - s)) ∷ raised_prices tick thresholds prices d supply

-- the prices that are posted after n rounds: the prices of round n + 1
abbrev pub prices_after : Terms → (ℕ → ℕ → List ℕ) → ℕ → List ℕ
prices_after terms held zero = terms.reserves
prices_after terms held (suc n) =
    raised_prices terms.tick terms.thresholds (prices_after terms held n) (demand terms held (suc n)) terms.supply

-- the eligibility of bidder j after n rounds: its eligibility in round n + 1
abbrev pub eligibility_after : Terms → (ℕ → ℕ → List ℕ) → ℕ → ℕ → ℕ
eligibility_after terms held j zero = (entrant terms j).eligibility
eligibility_after terms held j (suc n) = cost_of terms.points (held (suc n) j)

-- the first of the rounds 1 to n whose demand is within the supply
abbrev pub final_round : Terms → (ℕ → ℕ → List ℕ) → ℕ → Option ℕ
final_round terms held zero = None
final_round terms held (suc n) =
    option_or (final_round terms held n) (if is_within (demand terms held (suc n)) terms.supply then Some (suc n) else None)

-- after n closes: the clock runs until a final round is closed; the next close closes the sealed round
abbrev pub stage_by : ℕ → Option ℕ → Stage
stage_by n None = Clock
stage_by n (Some final) = if n == final then Sealed else Closed

-- the round that is posted after n closes, which is the final one once the clock has stopped
abbrev pub round_by : ℕ → Option ℕ → ℕ
round_by n None = suc n
round_by n (Some final) = final

-- how many clock rounds are closed after n closes
abbrev pub closed_by : ℕ → Option ℕ → ℕ
closed_by n None = n
closed_by n (Some final) = final

abbrev pub stage_after : Terms → (ℕ → ℕ → List ℕ) → ℕ → Stage
stage_after terms held n = stage_by n (final_round terms held n)

abbrev pub round_after : Terms → (ℕ → ℕ → List ℕ) → ℕ → ℕ
round_after terms held n = round_by n (final_round terms held n)

abbrev pub closed_after : Terms → (ℕ → ℕ → List ℕ) → ℕ → ℕ
closed_after terms held n = closed_by n (final_round terms held n)

-- one clock round as one bidder has it: the prices, the bidder's eligibility at its start, and the package that the bidder
-- holds in it
pub record OwnRound : Type 0 where
  pub prices : List ℕ
  pub eligibility : ℕ
  pub held : List ℕ

abbrev pub own_round : Terms → (ℕ → ℕ → List ℕ) → ℕ → ℕ → OwnRound
own_round terms held j r =
    record { prices = prices_after terms held (r - 1); eligibility = eligibility_after terms held j (r - 1); held = held r j }

-- the first n rounds of bidder j, the first one first
abbrev pub own_rounds : Terms → (ℕ → ℕ → List ℕ) → ℕ → ℕ → List OwnRound
own_rounds terms held j n = listing (own_round terms held j) n
