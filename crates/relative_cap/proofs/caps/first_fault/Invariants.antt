-- What is left decides.
use Rattle.std.proofs.Common.{◌≡◌, ◌+◌, drop, map}
use Rattle.auction_rules.specs.Caps.{cap_of, first_excess, list_fault}
use Rattle.relative_cap.specs.OwnRounds.{bid_value, rounds_of}
use Rattle.relative_cap.proofs.caps.first_fault.Given as goal

abbrev pub invariant-loop-index : goal.invariant-loop-index
invariant-loop-index l =
    first_excess (cap_of l.final_cap l.points (rounds_of l.j l.history) (map bid_value l.list)) (l.index + 1) (map bid_value (drop l.index l.list))
    ≡ list_fault l.final_cap l.points (rounds_of l.j l.history) (map bid_value l.list)
