-- What is computed before a close changes anything.
use Rattle.std.specs.Prelude.{◌≡◌, true, false}
use Rattle.auction_rules.specs.declared.Reply.TheVariants as reply
use Rattle.auction_rules.specs.Terms.{Terms}
use Rattle.clock_stage.specs.declared.closes.CloseStep.{CloseStep}
use Rattle.clock_stage.specs.declared.closes.CloseStep.TheVariants.{Next, Ends, Refused}
use Rattle.clock_stage.specs.ClockState.{ClockState, has_excess, next_prices, next_round, reply_to_close}
use Rattle.clock_stage.specs.Closings.{IsRefusal, Tells}
use Rattle.clock_stage.specs.Rounds.{round_value}

-- the round that is posted, or the final round once more, or a refusal
abbrev pub IsClosing : Terms → ClockState → CloseStep → Type 0
IsClosing terms clock (Next next) = (has_excess terms clock ≡ true) × (reply_to_close terms clock ≡ reply.Ok)
    × (round_value next ≡ next_round terms (next_prices terms clock) clock.posted)
IsClosing terms clock (Ends next) = (has_excess terms clock ≡ false) × (round_value next ≡ clock.posted)
IsClosing terms clock (Refused closed) = IsRefusal closed × Tells closed (reply_to_close terms clock) clock
