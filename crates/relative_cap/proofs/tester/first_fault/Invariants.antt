-- What is left decides.
use Rattle.std.proofs.Common.{◌≡◌, ℕ, ◌+◌, List, Option, drop, map}
use Rattle.std.specs.List.{All}
use Rattle.auction_rules.specs.Caps.{first_excess}
use Rattle.relative_cap.specs.Tested.{terms_cap, tested_bid}
use Rattle.relative_cap.proofs.tester.first_fault.Given as goal

abbrev pub invariant-loop-index : goal.invariant-loop-index
invariant-loop-index l =
    (cap : List ℕ → Option ℕ) → All (λ e. terms_cap l.final_cap l.highs e.terms ≡ cap e.bid.«package») l.entries
    → first_excess cap (l.index + 1) (map tested_bid (drop l.index l.entries)) ≡ first_excess cap 1 (map tested_bid l.entries)
