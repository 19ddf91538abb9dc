-- As many packages as bidders.
use Rattle.std.proofs.Common.{◌≡◌, ◌∙◌, ℕ, List, map, ap, sym, length, rules}
use Rattle.std.specs.Prelude.{replicate}
use Rattle.auction_model.specs.Package.{cost_of}
use Rattle.auction_rules.specs.Terms.{no_lots}
use Rattle.clock_stage.specs.ClockState.{round_with}
use Rattle.clock_stage.proofs.Demands.{map-same}
use Rattle.clock_stage.proofs.closes.round_after.Goals as goal

pub returns : goal.returns
returns c =
    let eligibility : c.in_ok-points_of.field-0.items ≡ map (cost_of c.args.award.now.points) c.args.posted.now.held.items = search rules in
    let held : c.in_ok-empty_packages.field-0.items ≡ replicate (length c.args.posted.now.held.items) (no_lots c.args.award.now) = search rules in
    ap (λ (e : List ℕ). round_with c.args.prices.items e c.in_ok-empty_packages.field-0.items) eligibility
    ∙ ap (round_with c.args.prices.items (map (cost_of c.args.award.now.points) c.args.posted.now.held.items))
    (held ∙ sym (map-same (no_lots c.args.award.now) c.args.posted.now.held.items))
