use Rattle.std.proofs.Common.{◌∙◌}
use Rattle.pricing_tests.proofs.checks.verdict_of.Goals as goal

pub check-requires-clause-shape : goal.check-requires-clause-shape
check-requires-clause-shape c = record {
  bidders_are = c.in-Ok.ensures.shape.bidders_are ∙ c.of.ensures.bidders;
  states_are = c.in-Ok.ensures.shape.states_are ∙ c.of.ensures.states;
}
