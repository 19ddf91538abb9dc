-- What is left decides.
use Rattle.std.proofs.Common.{◌≡◌, ◌+◌, drop}
use Rattle.auction_rules.specs.Replies.{price_top}
use Rattle.clock_stage.proofs.demand.first_above_top.Given as goal

abbrev pub invariant-loop-category : goal.invariant-loop-category
invariant-loop-category l = price_top (l.category + 1) (drop l.category l.prices) ≡ price_top 1 l.prices
