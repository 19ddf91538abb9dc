-- What the state after a log says of the auction is what the whole log says.
use Rattle.std.proofs.Common.{◌≡◌, ℕ, suc, List, Option, Some, None, refl, ◌∙◌, ap, inl, inr, length}
use Rattle.std.specs.Prelude.{if◌then◌else◌, nat_eq}
use Rattle.std.proofs.lemmas.Bool.{cases_Bool}
use Rattle.auction_rules.specs.declared.Event.{Event}
use Rattle.auction_rules.specs.Terms.{Terms}
use Rattle.auction_rules.specs.Rounds.{closed_after, closed_by, final_round, listing, round_by, stage_after, stage_by}
use Rattle.auction_rules.specs.Lines.{closes, held_in}
use Rattle.auction_rules.specs.Replies.{admitted, is_clock, log_prices, log_round, log_stage}
use Rattle.auction_rules.specs.State.{round_in, round_of, state_of}
use Rattle.auction_rules.proofs.States.{length-listing}

-- how far it is
pub stage-state_of : (terms : Terms) (log : List Event) → (state_of terms log).stage ≡ log_stage terms log
unfolding state_of log_stage
stage-state_of terms log = refl

-- the prices that are posted
pub prices-state_of : (terms : Terms) (log : List Event) → (state_of terms log).prices ≡ log_prices terms log
unfolding state_of log_prices
prices-state_of terms log = refl

-- the closed rounds and the stage say which round is posted
closed-round_by : (n : ℕ) (final : Option ℕ) → (if is_clock (stage_by n final) then suc (closed_by n final) else closed_by n final) ≡ round_by n final
closed-round_by n None = refl
closed-round_by n (Some final) = elim (cases_Bool (nat_eq n final)) [ inl last ↦ rw last refl | inr past ↦ rw past refl ]

-- the number of the posted round
pub round-state_of : (terms : Terms) (log : List Event) → round_in (state_of terms log) ≡ log_round terms log
unfolding state_of log_round
round-state_of terms log =
    let held : ℕ → ℕ → List ℕ = held_in terms (admitted terms log) in
    let n : ℕ = closes (admitted terms log) in
    let count : length (listing (round_of terms held) (closed_after terms held n)) ≡ closed_after terms held n
    = length-listing (round_of terms held) (closed_after terms held n) in
    ap (λ (closed : ℕ). if is_clock (stage_after terms held n) then suc closed else closed) count
    ∙ closed-round_by n (final_round terms held n)
