-- Each way of a close keeps what a clock keeps, and a clock that stands for a log then stands for it with the close.
use Rattle.std.proofs.Common.{◌≡◌, ◌∙◌, ◌++◌, ◌∷◌, [], Bool, true, false, ap, sym, subst, inl, inr, arith}
use Rattle.std.proofs.lemmas.Grind.{common_steps}
use Rattle.auction_rules.specs.Terms.{Terms}
use Rattle.auction_rules.specs.State.{Round}
use Rattle.clock_stage.specs.declared.closes.CloseStep.{CloseStep}
use Rattle.clock_stage.specs.declared.closes.CloseStep.TheVariants.{Next, Ends}
use Rattle.clock_stage.specs.ClockState.{ClockState, clock_with}
use Rattle.clock_stage.specs.Closing.{IsClosing}
use Rattle.clock_stage.specs.Kept.{IsClock, IsFor}
use Rattle.clock_stage.specs.Rounds.{round_value}
use Rattle.clock_stage.proofs.KeptLaws.{next-kept, next-for, end-kept}
use Rattle.clock_stage.proofs.ClockLaws.{close-stands}
use Rattle.clock_stage.proofs.clock.Clock.close.Goals as goal

-- what was computed, said of the clock as it is seen
told : (award : Terms) (clock fields : ClockState) (running : Bool) (closing closed : CloseStep) → clock_with running fields.rounds fields.posted ≡ clock
    → clock.running ≡ true
    → closing ≡ closed → IsClosing award (clock_with true fields.rounds fields.posted) closing → IsClosing award clock closed
told award clock fields running closing closed seen runs is closes =
    let same : clock_with true fields.rounds fields.posted ≡ clock = ap (λ (b : Bool). clock_with b fields.rounds fields.posted)
    (sym (ap (λ (c : ClockState). c.running) seen ∙ runs)) ∙ seen in
    subst (λ (c : ClockState). IsClosing award c closed) same (subst (IsClosing award (clock_with true fields.rounds fields.posted)) is closes)

pub post-requires-clause-kept : goal.post-requires-clause-kept
post-requires-clause-kept c =
    let fields : ClockState = clock_with true c.self.inside.history (round_value c.self.inside.posted) in
    let kept : IsClock c.args.self.now = subst IsClock c.self.view_is c.self.invariant in
    let next : IsClosing c.args.award.now c.args.self.now (Next c.in-Ok-Next.next)
    = told c.args.award.now c.args.self.now fields c.self.inside.running c.in-Ok-Next.field-0 (Next c.in-Ok-Next.next) c.self.view_is c.requires.running
    c.in-Ok-Next.field-0-is c.in-Ok-Next.ensures in
    subst (λ (r : Round). IsClock (clock_with true (c.args.self.now.rounds ++ c.args.self.now.posted ∷ []) r)) (sym next.2)
    (next-kept c.args.award.now c.args.self.now c.requires.award kept next.0 next.1)

pub end-requires : goal.end-requires
end-requires c =
    let fields : ClockState = clock_with true c.self.inside.history (round_value c.self.inside.posted) in
    let kept : IsClock c.args.self.now = subst IsClock c.self.view_is c.self.invariant in
    let last : IsClosing c.args.award.now c.args.self.now (Ends c.in-Ok-Ends.last)
    = told c.args.award.now c.args.self.now fields c.self.inside.running c.in-Ok-Ends.field-0 (Ends c.in-Ok-Ends.last) c.self.view_is c.requires.running
    c.in-Ok-Ends.field-0-is c.in-Ok-Ends.ensures in
    subst (λ (r : Round). IsClock (clock_with false (c.args.self.now.rounds ++ c.args.self.now.posted ∷ []) r)) (sym last.1)
    (end-kept c.args.self.now kept c.requires.running)

pub returns-in-Ok-Next-clause-clock : goal.returns-in-Ok-Next-clause-clock
returns-in-Ok-Next-clause-clock c = grind (arith, common_steps)

pub returns-in-Ok-Ends-clause-clock : goal.returns-in-Ok-Ends-clause-clock
returns-in-Ok-Ends-clause-clock c = grind (arith, common_steps)

pub returns-in-Ok-Refused-clause-clock : goal.returns-in-Ok-Refused-clause-clock
returns-in-Ok-Refused-clause-clock c = grind (arith, common_steps)

pub returns-in-Ok-Next-clause-award : goal.returns-in-Ok-Next-clause-award
returns-in-Ok-Next-clause-award c =
    let fields : ClockState = clock_with true c.self.inside.history (round_value c.self.inside.posted) in
    let next : IsClosing c.args.award.now c.args.self.now (Next c.in-Ok-Next.next)
    = told c.args.award.now c.args.self.now fields c.self.inside.running c.in-Ok-Next.field-0 (Next c.in-Ok-Next.next) c.self.view_is c.requires.running
    c.in-Ok-Next.field-0-is c.in-Ok-Next.ensures in
    elim c.post.ensures [
      | inl same ↦ subst (IsFor c.args.award.now) (sym same.1) c.requires.award
      | inr posted ↦ subst (IsFor c.args.award.now) (sym (posted.1 ∙ ap (clock_with true (c.args.self.now.rounds ++ c.args.self.now.posted ∷ [])) next.2))
          (next-for c.args.award.now c.args.self.now c.requires.award)
    ]

pub returns-in-Ok-Next-clause-stands : goal.returns-in-Ok-Next-clause-stands
returns-in-Ok-Next-clause-stands c = λ log is.
    close-stands c.args.award.now log c.args.self.now c.post.new.self c.post.result is c.requires.running (returns-in-Ok-Next-clause-clock c)

pub returns-in-Ok-Ends-clause-stands : goal.returns-in-Ok-Ends-clause-stands
returns-in-Ok-Ends-clause-stands c = λ log is.
    close-stands c.args.award.now log c.args.self.now c.end.new.self c.end.result is c.requires.running (returns-in-Ok-Ends-clause-clock c)

pub returns-in-Ok-Refused-clause-stands : goal.returns-in-Ok-Refused-clause-stands
returns-in-Ok-Refused-clause-stands c = λ log is.
    close-stands c.args.award.now log c.args.self.now c.args.self.now c.in-Ok-Refused.closed is c.requires.running (returns-in-Ok-Refused-clause-clock c)
