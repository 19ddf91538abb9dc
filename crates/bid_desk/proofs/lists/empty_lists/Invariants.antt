-- As many bidders as have been given lists.
use Rattle.std.proofs.Common.{◌≡◌, []}
use Rattle.std.specs.Prelude.{replicate}
use Rattle.bid_desk.specs.Lists.{lists_with}
use Rattle.bid_desk.proofs.lists.empty_lists.Given as goal

abbrev pub invariant-loop : goal.invariant-loop
invariant-loop l = l.lists.items ≡ replicate l.counter (lists_with [] [])
