-- What a desk that answers and takes a line by its state does with the log that it stands for.
use Rattle.std.proofs.Common.{◌≡◌, ◌⊎◌, ℕ, true, List, ap, sym, ◌∙◌, inl, inr}
use Rattle.auction_rules.specs.declared.Event.{Event}
use Rattle.auction_rules.specs.declared.Reply.{Reply}
use Rattle.auction_rules.specs.declared.Reply.TheVariants as reply
use Rattle.auction_rules.specs.Replies.{is_of, reply_to}
use Rattle.auction_rules.specs.State.{DeskState, reply_in, state_of, state_with}
use Rattle.auction_rules.specs.View.{view}
use Rattle.auction_rules.proofs.Stands.{reply_in-state_of, state_with-state_of}
use Rattle.auction_rules.proofs.Views.{reply_to-same_view}
use Rattle.bid_desk.specs.Reached.{IsBidOrDrop, IsTaken, IsTakenOrMemory, StandsNext, Takes}
use Rattle.bid_desk.proofs.OtherReplies.{rules-other}

-- a desk that stood for a log stands for the log with the line
pub stands-next : (old new : DeskState) (line : Event) (answer : Reply) (log : List Event) → IsTakenOrMemory old line answer new
    → old ≡ state_of old.terms log → StandsNext old log line answer new
stands-next old new line answer log (inl memory) is = inl memory
stands-next old new line answer log (inr t) is = inr (record {
  reply = t.reply ∙ ap (λ (s : DeskState). reply_in s line) is ∙ reply_in-state_of old.terms log line;
  state = t.state ∙ ap (λ (s : DeskState). state_with s line) is ∙ state_with-state_of old.terms log line;
})

-- the reply follows from what the bidder has seen
pub view-answers : (old new : DeskState) (line : Event) (answer : Reply) (j : ℕ) (log other : List Event) → IsTakenOrMemory old line answer new
    → is_of j line ≡ true
    → old ≡ state_of old.terms log → view old.terms j log ≡ view old.terms j other → (answer ≡ reply.Memory) ⊎ (answer ≡ reply_to old.terms other line)
view-answers old new line answer j log other (inl memory) mine is same = inl memory.reply
view-answers old new line answer j log other (inr t) mine is same =
    inr (t.reply ∙ ap (λ (s : DeskState). reply_in s line) is ∙ reply_in-state_of old.terms log line ∙ reply_to-same_view old.terms j line log other mine same)

-- a line that takes no memory
pub takes-sure : (old new : DeskState) (line : Event) (answer : Reply) → IsTaken old line answer new → Takes old line answer new
takes-sure old new line answer t = record {
  taken = inr t;
  sure = λ yes memory. rules-other old line (sym t.reply ∙ memory);
  memory = λ memory. absurd (rules-other old line (sym t.reply ∙ memory));
}

-- any other line
pub takes-other : (old new : DeskState) (line : Event) (answer : Reply) → (IsBidOrDrop line → ⊥) → IsTakenOrMemory old line answer new
    → Takes old line answer new
takes-other old new line answer is (inl memory) = record { taken = inl memory; sure = λ yes. absurd (is yes); memory = λ _. memory.may }
takes-other old new line answer is (inr t) = takes-sure old new line answer t
