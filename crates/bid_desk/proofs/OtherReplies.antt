-- The rules never reply Memory.
use Rattle.std.proofs.Common.{◌≢◌, ℕ, suc, Bool, true, false, List, [], ◌∷◌, Option, Some, length, rules}
use Rattle.std.specs.Prelude.{nat_le, if◌then◌else◌}
use Rattle.limits.specs.declared.TheConstants.{MOST_PRICE}
use Rattle.auction_rules.specs.declared.Event.{Event}
use Rattle.auction_rules.specs.declared.Event.TheVariants.{Close, Draft, Drop, Submit}
use Rattle.auction_rules.specs.declared.Event.TheVariants as event_kind
use Rattle.auction_rules.specs.declared.Reply.{Reply}
use Rattle.auction_rules.specs.declared.Reply.TheVariants as reply
use Rattle.auction_rules.specs.Replies.{closing_reply, is_closed, price_top}
use Rattle.auction_rules.specs.Rounds.{raised_prices}
use Rattle.auction_rules.specs.State.{DeskState, asked, has_excess_in, reply_in}

top-step : (low : Bool) (later : Option Reply) (category price : ℕ) → later ≢ Some reply.Memory
    → (if low then later else Some (reply.PriceTop category price)) ≢ Some reply.Memory
top-step true later category price other = other
top-step false later category price other = λ is. cc

top-other : (category : ℕ) (prices : List ℕ) → price_top category prices ≢ Some reply.Memory
top-other category [] = λ is. cc
top-other category (p ∷ prices) = top-step (nat_le p MOST_PRICE) (price_top (suc category) prices) category p (top-other (suc category) prices)

close-other : (closed excess : Bool) (round : ℕ) (prices : List ℕ) → closing_reply closed excess round prices ≢ reply.Memory
close-other closed excess round prices = let top = top-other 1 prices in search rules

-- the reply to a line
pub rules-other : (st : DeskState) (line : Event) → reply_in st line ≢ reply.Memory
rules-other st (event_kind.Bid j lots) = search rules
rules-other st (Draft j lots amount) = search rules
rules-other st (Drop j lots) = search rules
rules-other st (Submit j) = search rules
rules-other st Close = close-other (is_closed st.stage) (has_excess_in st) (suc (length st.rounds))
    (raised_prices st.terms.tick st.terms.thresholds st.prices (asked st.terms st.held) st.terms.supply)
