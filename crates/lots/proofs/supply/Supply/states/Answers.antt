use Rattle.std.proofs.Common.{ap, sym, ◌∙◌}
use Rattle.auction_model.specs.Place.{states_of}
use Rattle.auction_model.proofs.PlaceLaws.{last-place}
use Rattle.lots.proofs.supply.Supply.states.Goals as goal

pub returns-clause-last : goal.returns-clause-last
returns-clause-last c = last-place c.args.self.now ∙ ap states_of (sym c.self.view_is) ∙ sym c.self.invariant.1
