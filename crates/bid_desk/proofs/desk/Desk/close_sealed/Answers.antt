-- The close is one more line of the log that the desk stands for.
use Rattle.std.proofs.Common.{◌∙◌, ap, refl}
use Rattle.auction_rules.specs.declared.Event.TheVariants.{Close}
use Rattle.auction_rules.specs.State.{DeskState}
use Rattle.bid_desk.specs.DeskValue.{desk_value}
use Rattle.bid_desk.proofs.DeskLaws.{reached-next, sealed-stage, sealed-state}
use Rattle.bid_desk.proofs.desk.Desk.close_sealed.Goals as goal

pub invariant_of-self : goal.invariant_of-self
invariant_of-self c = (
  c.self.invariant.0,
  reached-next (desk_value c.self.inside.award c.self.inside.clock c.self.inside.closed c.self.inside.bidders.items) _ Close c.self.invariant.1 tt refl
      (sealed-state c.self.inside.award c.self.inside.clock c.self.inside.closed c.self.inside.bidders.items
      (ap (λ (s : DeskState). s.stage) c.self.view_is ∙ c.requires)),
  c.self.invariant.2,
  λ _. (sealed-stage _ _ (ap (λ (s : DeskState). s.stage) c.self.view_is ∙ c.requires)).0,
)
