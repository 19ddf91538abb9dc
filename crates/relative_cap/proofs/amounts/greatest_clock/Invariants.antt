-- The greatest so far and what is left give the whole.
use Rattle.std.proofs.Common.{◌≡◌, ◌≤◌, ◌^◌, drop, map, max}
use Rattle.auction_rules.specs.Caps.{clock_bid, greatest}
use Rattle.relative_cap.specs.OwnRounds.{rounds_of}
use Rattle.relative_cap.proofs.amounts.greatest_clock.Given as goal

abbrev pub invariant-loop-r : goal.invariant-loop-r
invariant-loop-r l = record {
  whole : max l.best (greatest l.«package» (map clock_bid (rounds_of l.j (drop l.r l.history)))) ≡ greatest l.«package»
      (map clock_bid (rounds_of l.j l.history));
  most : l.best ≤ 2 ^ 42;
}
