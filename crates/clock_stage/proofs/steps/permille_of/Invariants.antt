-- The last of the thresholds passed so far, and of those that are left.
use Rattle.std.proofs.Common.{◌≡◌, ◌≤◌, drop, map}
use Rattle.std.specs.Prelude.{filter, nat_le}
use Rattle.auction_rules.specs.Step.{last_or, permille_at, share_of}
use Rattle.clock_stage.proofs.steps.permille_of.Given as goal

abbrev pub invariant-loop-from : goal.invariant-loop-from
invariant-loop-from l =
    (last_or l.permille (map share_of (filter (λ t. nat_le t.0 l.excess) (drop l.from-index l.thresholds))) ≡ permille_at l.thresholds l.excess)
    × (l.permille ≤ 1000)
