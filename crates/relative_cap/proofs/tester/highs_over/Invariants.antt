-- The highest amounts over the entries so far.
use Rattle.std.proofs.Common.{ℕ, List, [], map, take}
use Rattle.std.specs.List.{All}
use Rattle.auction_rules.specs.State.{Round}
use Rattle.relative_cap.specs.Tested.{AreHighs, IsTested, tested_bid}
use Rattle.relative_cap.proofs.tester.highs_over.Given as goal

abbrev pub invariant-loop-entry : goal.invariant-loop-entry
invariant-loop-entry l =
    (history : List Round) (points : List ℕ) (j : ℕ) → AreHighs history j [] l.clock → All (IsTested history points j) l.entries
    → AreHighs history j (map tested_bid (take l.entry-index l.entries)) l.highs.items
