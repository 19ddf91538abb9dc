-- The bid is one more line of the log that the desk stands for.
use Rattle.std.proofs.Common.{◌≡◌, ◌∙◌, true, false, length, ap, refl, sym, rules}
use Rattle.std.proofs.lemmas.Bool.{false≢true}
use Rattle.auction_rules.specs.declared.Event.TheVariants as event_kind
use Rattle.auction_rules.specs.declared.Stage.TheVariants as stage
use Rattle.auction_rules.specs.State.{DeskState}
use Rattle.bid_desk.specs.DeskValue.{desk_value}
use Rattle.bid_desk.proofs.DeskLaws.{clock-stage, bid-state, reached-next}
use Rattle.bid_desk.proofs.TesterLaws.{testers-running}
use Rattle.bid_desk.proofs.desk.Desk.bid.Goals as goal

pub invariant_of-self : goal.invariant_of-self
invariant_of-self c =
    let is : c.stage.result ≡ stage.Clock = search rules in
    let clock : (c.self.inside.clock.running ≡ true) × (c.self.inside.closed ≡ false)
    = clock-stage _ _ (ap (λ (s : DeskState). s.stage) c.self.view_is ∙ sym c.stage.ensures ∙ is) in
    let line = event_kind.Bid c.args.bidder c.args.«package».now in (
      c.bid.ensures.award,
      reached-next (desk_value c.self.inside.award c.self.inside.clock c.self.inside.closed c.self.inside.bidders.items) _ line c.self.invariant.1
          (c.requires ∙ ap (λ (s : DeskState). length s.terms.supply) (sym c.self.view_is)) refl
          (bid-state c.self.inside.award c.self.inside.clock c.bid.new.self c.self.inside.closed c.self.inside.bidders.items c.args.bidder
          c.args.«package».now clock.0 clock.1 c.bid.ensures.clock),
      testers-running c.self.inside.award c.self.inside.clock c.bid.new.self c.self.inside.testers.items clock.0 c.self.invariant.2,
      λ closed. absurd (false≢true (sym clock.1 ∙ closed)),
    )
