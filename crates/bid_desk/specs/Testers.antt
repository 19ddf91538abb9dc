-- The testers of the bidders' lists: of each bidder the one that is kept for it, if there is one.
use Rattle.std.specs.Prelude.{◌≡◌, ℕ, ◌+◌, ◌<◌, false, List, Option, Some, None, length, slice_index_or}
use Rattle.auction_rules.specs.State.{Round}
use Rattle.auction_rules.specs.Terms.{Terms}
use Rattle.clock_stage.specs.ClockState.{ClockState}
use Rattle.relative_cap.specs.Tested.{Tester, IsTester}

-- what is kept of bidder j is a tester of its lists over these rounds
abbrev pub IsKeptFor : List Round → List ℕ → ℕ → Option Tester → Type 0
IsKeptFor rounds points j None = Unit {0}
IsKeptFor rounds points j (Some t) = IsTester rounds points j t

abbrev pub AreFor : List Round → List ℕ → List (Option Tester) → Type 0
AreFor rounds points testers = (k : ℕ) (d : Option Tester) → k < length testers
    → IsKeptFor rounds points (k + 1) (slice_index_or testers k d)

-- the tester that was kept, or one that is right for all points
abbrev pub IsTesterOrNew : List Round → ℕ → Option Tester → Tester → Type 0
IsTesterOrNew rounds j None t = (points : List ℕ) → IsTester rounds points j t
IsTesterOrNew rounds j (Some kept) t = t ≡ kept

-- while the clock runs there is no tester, and once it has stopped each is one over the closed rounds
abbrev pub IsKeptIn : Terms → ClockState → ℕ → Option Tester → Type 0
IsKeptIn terms clock j None = Unit {0}
IsKeptIn terms clock j (Some t) = (clock.running ≡ false) × IsTester clock.rounds terms.points j t

pub record AreTesters (terms : Terms) (clock : ClockState) (testers : List (Option Tester)) : Type 0 where
  pub count : length testers ≡ length terms.bidders
  pub each : (k : ℕ) (d : Option Tester) → k < length testers
      → IsKeptIn terms clock (k + 1) (slice_index_or testers k d)
