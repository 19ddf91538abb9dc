-- The close is one more line of the log that the desk stands for, unless there was no memory.
use Rattle.std.proofs.Common.{◌≡◌, ◌∙◌, true, false, ap, sym, subst, inl, inr, refl}
use Rattle.std.proofs.lemmas.Bool.{false≢true}
use Rattle.auction_rules.specs.declared.Event.TheVariants.{Close}
use Rattle.auction_rules.specs.State.{DeskState, reply_in, state_with}
use Rattle.clock_stage.specs.ClockState.{ClockState, reply_to_close}
use Rattle.bid_desk.specs.Closes.{reply_value}
use Rattle.bid_desk.specs.DeskValue.{desk_value}
use Rattle.bid_desk.specs.Reached.{IsReached}
use Rattle.bid_desk.proofs.DeskLaws.{clock-stage, close-reply, close-state, reached-next, told-reply}
use Rattle.bid_desk.proofs.TesterLaws.{testers-running}
use Rattle.bid_desk.proofs.desk.Desk.close_round.Goals as goal

pub invariant_of-self : goal.invariant_of-self
invariant_of-self c =
    let clock : (c.self.inside.clock.running ≡ true) × (c.self.inside.closed ≡ false)
    = clock-stage _ _ (ap (λ (s : DeskState). s.stage) c.self.view_is ∙ c.requires) in (
      c.close-closed.ensures.award,
      elim c.close-closed.ensures.clock [
        | inl same ↦ subst (λ (k : ClockState). IsReached (desk_value c.self.inside.award k c.self.inside.closed c.self.inside.bidders.items))
            (sym same.1) c.self.invariant.1
        | inr told ↦ reached-next (desk_value c.self.inside.award c.self.inside.clock c.self.inside.closed c.self.inside.bidders.items) _ Close
            c.self.invariant.1 tt refl
            (close-state c.self.inside.award c.self.inside.clock c.close-closed.new.self c.self.inside.closed c.self.inside.bidders.items clock.0 clock.1
            told.1)
      ],
      testers-running c.self.inside.award c.self.inside.clock c.close-closed.new.self c.self.inside.testers.items clock.0 c.self.invariant.2,
      λ closed. absurd (false≢true (sym clock.1 ∙ closed)),
    )

pub returns : goal.returns
returns c =
    let clock : (c.self.inside.clock.running ≡ true) × (c.self.inside.closed ≡ false)
    = clock-stage _ _ (ap (λ (s : DeskState). s.stage) c.self.view_is ∙ c.requires) in
    elim c.close-closed.ensures.clock [
      | inl same ↦ inl (record {
        reply = c.reply_of.ensures ∙ ap reply_value same.0;
        same = ap (λ (k : ClockState). desk_value c.self.inside.award k c.self.inside.closed c.self.inside.bidders.items) same.1 ∙ c.self.view_is;
        may = c.requires;
      })
      | inr told ↦ inr (record {
        reply = c.reply_of.ensures ∙ told-reply c.close-closed.result (reply_to_close c.self.inside.award c.self.inside.clock) c.close-closed.new.self told.0
            ∙ close-reply c.self.inside.award c.self.inside.clock c.self.inside.closed c.self.inside.bidders.items clock.0 clock.1
            ∙ ap (λ (s : DeskState). reply_in s Close) c.self.view_is;
        state = close-state c.self.inside.award c.self.inside.clock c.close-closed.new.self c.self.inside.closed c.self.inside.bidders.items clock.0 clock.1
            told.1
            ∙ ap (λ (s : DeskState). state_with s Close) c.self.view_is;
      })
    ]
