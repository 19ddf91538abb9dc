-- A bid that is admitted keeps what a clock keeps, and a clock that stands for a log then stands for it with the bid.
use Rattle.std.proofs.Common.{◌≡◌, ◌∙◌, ◌-◌, ◌≤◌, ℕ, List, length, ap, sym, subst, rules, arith}
use Rattle.std.specs.Prelude.{sum}
use Rattle.std.proofs.lemmas.Grind.{common_steps}
use Rattle.auction_rules.specs.declared.Reply.TheVariants as reply
use Rattle.clock_stage.specs.ClockState.{ClockState, clock_with}
use Rattle.clock_stage.specs.Rounds.{round_value}
use Rattle.clock_stage.proofs.KeptLaws.{bid-kept}
use Rattle.clock_stage.proofs.ClockLaws.{bid-stands}
use Rattle.clock_stage.proofs.clock.Clock.bid.Goals as goal

pub invariant_of-self : goal.invariant_of-self
invariant_of-self c =
    let inside : ClockState = clock_with c.self.inside.running c.self.inside.history (round_value c.self.inside.posted) in
    let ok : c.reply_to_bid-reply.result ≡ reply.Ok = grind (arith, common_steps) in
    let categories : length c.copy_from.new.self ≡ length inside.posted.prices =
    ap length c.copy_from.ensures ∙ c.requires.categories ∙ sym c.requires.award.categories ∙ ap (λ (clock : ClockState). length clock.posted.prices)
    (sym c.self.view_is) in
    let few : sum c.copy_from.new.self ≤ 40 = subst (λ (lots : List ℕ). sum lots ≤ 40) (sym c.copy_from.ensures) (c.reply_to_bid-reply.ensures.few ok) in
    bid-kept inside (c.args.bidder - 1) c.copy_from.new.self c.self.invariant categories few

pub returns-then-matches-clause-clock : goal.returns-then-matches-clause-clock
returns-then-matches-clause-clock c = grind (arith, common_steps)

pub returns-else-matches-clause-clock : goal.returns-else-matches-clause-clock
returns-else-matches-clause-clock c = grind (arith, common_steps)

pub returns-then-matches-clause-reply : goal.returns-then-matches-clause-reply
returns-then-matches-clause-reply c = search rules

pub returns-else-matches-clause-reply : goal.returns-else-matches-clause-reply
returns-else-matches-clause-reply c = search rules

pub returns-then-matches-clause-stands : goal.returns-then-matches-clause-stands
returns-then-matches-clause-stands c = λ log is.
    bid-stands c.args.award.now log c.args.self.now _ c.args.bidder c.args.package.now c.reply_to_bid-reply.result is c.requires.running
    (returns-then-matches-clause-reply c) (returns-then-matches-clause-clock c)

pub returns-else-matches-clause-stands : goal.returns-else-matches-clause-stands
returns-else-matches-clause-stands c = λ log is.
    bid-stands c.args.award.now log c.args.self.now c.args.self.now c.args.bidder c.args.package.now c.reply_to_bid-reply.result is c.requires.running
    (returns-else-matches-clause-reply c) (returns-else-matches-clause-clock c)
