-- The eligibilities of the bidders so far.
use Rattle.std.proofs.Common.{◌≡◌}
use Rattle.auction_rules.specs.Rounds.{listing}
use Rattle.auction_rules.specs.Terms.{entrant}
use Rattle.clock_stage.proofs.clock.first_eligibility.Given as goal

abbrev pub invariant-loop-j : goal.invariant-loop-j
invariant-loop-j l = l.eligibility.items ≡ listing (λ j. (entrant l.award j).eligibility) l.j
