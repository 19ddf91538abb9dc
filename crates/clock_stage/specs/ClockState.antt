-- The state of a clock, and what its bids and closes make of it.
use Rattle.std.specs.Prelude.{ℕ, suc, ◌-◌, Bool, true, false, not, List, [], ◌∷◌, ◌++◌, length, map, slice_index, slice_set, if◌then◌else◌}
use Rattle.auction_model.specs.Package.{cost_of, is_within}
use Rattle.auction_rules.specs.declared.Reply.{Reply}
use Rattle.auction_rules.specs.declared.Reply.TheVariants as reply
use Rattle.auction_rules.specs.declared.Stage.TheVariants.{Clock}
use Rattle.auction_rules.specs.Terms.{Terms, no_lots}
use Rattle.auction_rules.specs.Rounds.{raised_prices}
use Rattle.auction_rules.specs.Replies.{bid_reply, closing_reply, is_clock, is_ok_reply}
use Rattle.auction_rules.specs.State.{DeskState, Round, asked, round_now}

-- whether rounds are posted, the closed rounds, and the posted one. Once the clock has ended it keeps the final round as posted
pub record ClockState : Type 0 where
  pub running : Bool
  pub rounds : List Round
  pub posted : Round

abbrev pub clock_with : Bool → List Round → Round → ClockState
clock_with running rounds posted = record { running = running; rounds = rounds; posted = posted }

-- the clock of a desk
abbrev pub clock_of : DeskState → ClockState
clock_of st = clock_with (is_clock st.stage) st.rounds (round_now st)

-- the number of the posted round, and of the final one once the clock has ended
abbrev pub round_number : ClockState → ℕ
round_number clock = if clock.running then suc (length clock.rounds) else length clock.rounds

abbrev pub round_with : List ℕ → List ℕ → List (List ℕ) → Round
round_with prices eligibility held = record { prices = prices; eligibility = eligibility; held = held }

-- the round where bidder j holds these lots
abbrev pub with_held : Round → ℕ → List ℕ → Round
with_held r j lots = round_with r.prices r.eligibility (slice_set r.held (j - 1) lots)

-- the reply to a bid of bidder j while the clock runs
abbrev pub reply_to_bid : Terms → ClockState → ℕ → List ℕ → Reply
reply_to_bid terms clock j lots = bid_reply terms Clock (slice_index clock.posted.eligibility (j - 1)) j lots

-- the clock after a bid of bidder j
abbrev pub after_bid : Terms → ClockState → ℕ → List ℕ → ClockState
after_bid terms clock j lots =
    if is_ok_reply (reply_to_bid terms clock j lots) then clock_with clock.running clock.rounds (with_held clock.posted j lots) else clock

-- the reply to a close that would raise this category to this price
abbrev pub top_reply : ℕ × ℕ → Reply
top_reply top = reply.PriceTop top.0 top.1

-- some count of what is asked for is above the supply
abbrev pub has_excess : Terms → ClockState → Bool
has_excess terms clock = not (is_within (asked terms clock.posted.held) terms.supply)

-- the prices that a close raises
abbrev pub next_prices : Terms → ClockState → List ℕ
next_prices terms clock = raised_prices terms.tick terms.thresholds clock.posted.prices (asked terms clock.posted.held) terms.supply

-- the reply to a close while the clock runs
abbrev pub reply_to_close : Terms → ClockState → Reply
reply_to_close terms clock = closing_reply false (has_excess terms clock) (suc (length clock.rounds)) (next_prices terms clock)

-- the round that is posted after this one if there is excess demand: at these prices each bidder is eligible for the points of
-- its package, and holds nothing yet
abbrev pub next_round : Terms → List ℕ → Round → Round
next_round terms prices r = round_with prices (map (cost_of terms.points) r.held) (map (λ lots. no_lots terms) r.held)

-- the clock after an admitted close: it ends if there is no excess demand
abbrev pub clock_closed : Terms → ClockState → ClockState
clock_closed terms clock =
    if is_within (asked terms clock.posted.held) terms.supply then clock_with false (clock.rounds ++ clock.posted ∷ []) clock.posted
    else clock_with true (clock.rounds ++ clock.posted ∷ []) (next_round terms (next_prices terms clock) clock.posted)

-- the clock after a close
abbrev pub after_close : Terms → ClockState → ClockState
after_close terms clock = if is_ok_reply (reply_to_close terms clock) then clock_closed terms clock else clock
