-- As many places as have been made.
use Rattle.std.proofs.Common.{◌≡◌, None}
use Rattle.std.specs.Prelude.{replicate}
use Rattle.bid_desk.proofs.testers.no_testers.Given as goal

abbrev pub invariant-loop : goal.invariant-loop
invariant-loop l = l.testers.items ≡ replicate l.counter None
