-- The closed rounds' part in caps: for each round the greatest eligibility from it on, and the greatest clock bid for what was
-- held in it. Places are counted from 0.
use Rattle.std.specs.Prelude.{◌≡◌, ◌⊎◌, ℕ, ◌+◌, ◌-◌, ◌≤◌, ◌<◌, max, List, [], ◌∷◌, length, drop, slice_index}
use Rattle.limits.specs.declared.TheConstants.{MOST_AMOUNT}
use Rattle.auction_model.specs.Book.{BookBid}
use Rattle.auction_rules.specs.Rounds.{OwnRound}
use Rattle.auction_rules.specs.State.{Round}
use Rattle.auction_rules.specs.Caps.{highest}
use Rattle.relative_cap.specs.OwnRounds.{rounds_of, own_in}

-- the greatest eligibility
abbrev pub peak_of : List OwnRound → ℕ
peak_of [] = 0
peak_of (r ∷ rounds) = max r.eligibility (peak_of rounds)

-- the greatest eligibility after the first k rounds
abbrev pub peak_from : List Round → ℕ → ℕ → ℕ
peak_from history j k = peak_of (rounds_of j (drop k history))

-- the greatest eligibilities from the place on
abbrev pub ArePeaksFrom : ℕ → List Round → ℕ → List ℕ → Type 0
ArePeaksFrom place history j peaks = (k : ℕ) → place ≤ k → k < length history
    → slice_index peaks k ≡ peak_from history j k

-- the highest amount for what bidder j held in the round at place k
abbrev pub IsHigh : List Round → ℕ → List BookBid → ℕ → ℕ → Type 0
IsHigh history j bids k high = (high ≡ highest (rounds_of j history) bids (own_in history j (k + 1)).held)
    × (high ≤ MOST_AMOUNT)

-- the highest amounts over only the clock from the place on
abbrev pub AreHighsFrom : ℕ → List Round → ℕ → List ℕ → Type 0
AreHighsFrom place history j highs = (k : ℕ) → place ≤ k → k < length history
    → IsHigh history j [] k (slice_index highs k)

-- the greatest eligibility from each round on
pub record ArePeaks (history : List Round) (j : ℕ) (peaks : List ℕ) : Type 0 where
  pub room : length history ≤ length peaks
  pub each : ArePeaksFrom 0 history j peaks

pub record AreLevels (history : List Round) (j : ℕ) (peaks highs : List ℕ) : Type 0 where
  pub peaks_room : length history ≤ length peaks
  pub highs_room : length history ≤ length highs
  pub each_peak : ArePeaksFrom 0 history j peaks
  pub each_high : AreHighsFrom 0 history j highs

-- the place is the last one, or the last whose number is enough
pub record IsLastEnough (needed : ℕ) (peaks : List ℕ) (rounds r : ℕ) : Type 0 where
  pub first : 1 ≤ r
  pub last : r ≤ rounds
  pub enough : needed ≤ slice_index peaks (r - 1)
  pub later : (r ≡ rounds) ⊎ (slice_index peaks r < needed)
