-- The rounds of a history.
use Rattle.std.proofs.Common.{◌≡◌, ℕ, ◌-◌, ◌<◌, ◌≤◌, List, length, get_or, sym, ap, ◌∙◌, arith}
use Rattle.std.proofs.lemmas.List.{length-map, get_or-map}
use Rattle.auction_rules.specs.State.{Round}
use Rattle.clock_stage.specs.declared.rounds.ClockRound.{ClockRound}
use Rattle.clock_stage.specs.Kept.{IsRound, IsHistory, bidders_in, categories_in, no_round, closed_round}
use Rattle.clock_stage.specs.Rounds.{round_value, round_values}

-- what a read of the fields gives
pub round-read : (rounds : List ClockRound) (seen : List Round) (r : ℕ) (round : ClockRound) → round_values rounds ≡ seen → 1 ≤ r → r ≤ length seen
    → round ≡ get_or rounds (r - 1) round
    → round_value round ≡ closed_round seen r
round-read rounds seen r round is low high read =
    let inside : r - 1 < length rounds = omega (arith, ap length is, length-map rounds round_value) in
    ap round_value read ∙ sym (get_or-map round_value rounds (r - 1) round no_round inside) ∙ ap (λ (rs : List Round). closed_round rs r) is

-- each round is one of as many bidders and categories as the first
pub round-kept : (seen : List Round) (r : ℕ) → IsHistory seen → 1 ≤ r → r ≤ length seen → IsRound (bidders_in seen) (categories_in seen) (closed_round seen r)
round-kept seen r kept low high = kept.each (r - 1) no_round (omega arith)
