-- The reply to a line. A list of lines has the newest line first; a line is admitted when its reply, after the lines before it,
-- is Ok.
use Rattle.std.specs.Prelude.{ℕ, suc, ◌-◌, Bool, true, false, not, ◌&&◌, ◌||◌, List, [], ◌∷◌, Option, Some, None, map, length, nat_le, nat_lt, ◌==◌, if◌then◌else◌}
use Rattle.limits.specs.declared.TheConstants.{MOST_AMOUNT, MOST_DRAFTS, MOST_PRICE, MOST_ROUNDS}
use Rattle.auction_rules.specs.declared.Event.{Event}
use Rattle.auction_rules.specs.declared.Event.TheVariants.{Bid, Draft, Drop, Submit, Close}
use Rattle.auction_rules.specs.declared.Reply.{Reply}
use Rattle.auction_rules.specs.declared.Reply.TheVariants as reply
use Rattle.auction_rules.specs.declared.Stage.{Stage}
use Rattle.auction_rules.specs.declared.Stage.TheVariants.{Clock, Sealed, Closed}
use Rattle.auction_model.specs.Book.{BookBid}
use Rattle.auction_model.specs.Package.{cost_of, is_within}
use Rattle.auction_model.specs.PackageTests.{first_over, is_empty, is_same}
use Rattle.auction_rules.specs.Terms.{Terms, final_cap, entrant, broken_cap}
use Rattle.auction_rules.specs.Rounds.{OwnRound, prices_after, eligibility_after, stage_after, round_after, closed_after, own_rounds, demand}
use Rattle.auction_rules.specs.Caps.{clock_bid, greatest, list_fault}
use Rattle.auction_rules.specs.Lines.{is_close, line_bidder, closes, held_in, draft_list, submitted_list}

-- What the replies to one bidder's lines depend on: the stage, the closed clock rounds as the bidder has them, the posted
-- prices, the bidder's eligibility and package in the posted round, its draft list and its submitted list. Once the clock has
-- stopped the posted round is the final one.
pub record Standing : Type 0 where
  pub stage : Stage
  pub rounds : List OwnRound
  pub prices : List ℕ
  pub eligibility : ℕ
  pub held : List ℕ
  pub drafts : List BookBid
  pub submitted : List BookBid

-- a line of bidder j
abbrev pub is_of : ℕ → Event → Bool
is_of j e = not (is_close e) && (line_bidder e == j)

-- the standing after n closes
abbrev pub standing_by : Terms → (ℕ → ℕ → List ℕ) → ℕ → ℕ → List BookBid → List BookBid → Standing
standing_by terms held n j drafts submitted = record {
  stage = stage_after terms held n;
  rounds = own_rounds terms held j (closed_after terms held n);
  prices = prices_after terms held (round_after terms held n - 1);
  eligibility = eligibility_after terms held j (round_after terms held n - 1);
  held = held (round_after terms held n) j;
  drafts = drafts;
  submitted = submitted;
}

-- the standing of bidder j after these admitted lines
abbrev pub standing : Terms → List Event → ℕ → Standing
standing terms lines j = standing_by terms (held_in terms lines) (closes lines) j (draft_list j lines) (submitted_list j lines)

-- the first reply whose condition is true, and Ok if none is
abbrev pub first_reply : List (Option Reply) → Reply
first_reply [] = reply.Ok
first_reply (None ∷ rest) = first_reply rest
first_reply (Some r ∷ rest) = r

abbrev pub when : Bool → Reply → Option Reply
when holds r = if holds then Some r else None

abbrev pub is_clock : Stage → Bool
is_clock Clock = true
is_clock Sealed = false
is_clock Closed = false

abbrev pub is_sealed : Stage → Bool
is_sealed Clock = false
is_sealed Sealed = true
is_sealed Closed = false

abbrev pub is_closed : Stage → Bool
is_closed Clock = false
is_closed Sealed = false
is_closed Closed = true

-- the conditions, each with its reply
abbrev pub unknown : Terms → ℕ → Option Reply
unknown terms j = when (not (nat_lt 0 j && nat_le j (length terms.bidders))) reply.Unknown

abbrev pub supply_reply : Option ℕ → Option Reply
supply_reply None = None
supply_reply (Some category) = Some (reply.Supply category)

abbrev pub spectrum_reply : Option (ℕ × ℕ) → Option Reply
spectrum_reply None = None
spectrum_reply (Some r) = Some (reply.SpectrumCap r.0 r.1)

abbrev pub points_above : Terms → List ℕ → ℕ → Option Reply
points_above terms lots eligibility = when (nat_lt eligibility (cost_of terms.points lots)) (reply.Points eligibility)

abbrev pub below_reserve : Terms → List ℕ → ℕ → Option Reply
below_reserve terms lots amount = when (nat_lt amount (cost_of terms.reserves lots)) (reply.BelowReserve (cost_of terms.reserves lots))

abbrev pub below_clock : List OwnRound → List ℕ → ℕ → Option Reply
below_clock rounds lots amount =
    when (nat_lt amount (greatest lots (map clock_bid rounds))) (reply.BelowClock (greatest lots (map clock_bid rounds)))

abbrev pub cap_reply : Option (ℕ × ℕ) → Option Reply
cap_reply None = None
cap_reply (Some r) = Some (reply.RelativeCap r.0 r.1)

-- the list has an entry for the package
abbrev pub has_entry : List ℕ → List BookBid → Bool
has_entry lots [] = false
has_entry lots (b ∷ bids) = is_same b.lots lots || has_entry lots bids

abbrev pub drafts_full : List BookBid → List ℕ → Option Reply
drafts_full drafts lots = when (not (has_entry lots drafts) && nat_le MOST_DRAFTS (length drafts)) (reply.Full MOST_DRAFTS)

-- the first of the prices that is above the top, where the first of them is the given category's (prices that were not raised
-- are not above it, if the reserves are not)
abbrev pub price_top : ℕ → List ℕ → Option Reply
price_top category [] = None
price_top category (p ∷ prices) = if nat_le p MOST_PRICE then price_top (suc category) prices else Some (reply.PriceTop category p)

-- the reply to a clock bid of bidder j
abbrev pub bid_reply : Terms → Stage → ℕ → ℕ → List ℕ → Reply
bid_reply terms stage eligibility j lots = first_reply (
    when (not (is_clock stage)) reply.Stage
    ∷ unknown terms j
    ∷ supply_reply (first_over 1 lots terms.supply)
    ∷ spectrum_reply (broken_cap terms j lots)
    ∷ points_above terms lots eligibility
    ∷ [])

-- the reply to a line of bidder j, by what bidder j has in view. A close isn't a line of a bidder
abbrev pub own_reply : Terms → ℕ → Standing → Event → Reply
own_reply terms j s (Bid k lots) = bid_reply terms s.stage s.eligibility j lots
own_reply terms j s (Draft k lots amount) = first_reply (
    when (not (is_sealed s.stage)) reply.Stage
    ∷ unknown terms j
    ∷ supply_reply (first_over 1 lots terms.supply)
    ∷ spectrum_reply (broken_cap terms j lots)
    ∷ points_above terms lots (entrant terms j).eligibility
    ∷ when (is_empty lots) reply.Empty
    ∷ below_reserve terms lots amount
    ∷ below_clock s.rounds lots amount
    ∷ drafts_full s.drafts lots
    ∷ when (nat_lt MOST_AMOUNT amount) (reply.AmountTop MOST_AMOUNT)
    ∷ [])
own_reply terms j s (Drop k lots) = first_reply (
    when (not (is_sealed s.stage)) reply.Stage
    ∷ unknown terms j
    ∷ when (not (has_entry lots s.drafts)) reply.NoDraft
    ∷ [])
own_reply terms j s (Submit k) = first_reply (
    when (not (is_sealed s.stage)) reply.Stage
    ∷ unknown terms j
    ∷ cap_reply (list_fault (final_cap terms) terms.points s.rounds s.drafts)
    ∷ [])
own_reply terms j s Close = reply.Ok

-- some count of the demand of the round after n closes is above the supply, while the clock runs
abbrev pub has_excess : Terms → (ℕ → ℕ → List ℕ) → ℕ → Bool
has_excess terms held n = is_clock (stage_after terms held n) && not (is_within (demand terms held (suc n)) terms.supply)

-- the reply to a close of the round of this number, by whether the auction is closed and there is excess demand, and by the prices
-- that it would raise
abbrev pub closing_reply : Bool → Bool → ℕ → List ℕ → Reply
closing_reply closed excess round prices = first_reply (
    when closed reply.Stage
    ∷ when (excess && nat_le MOST_ROUNDS round) (reply.Full MOST_ROUNDS)
    ∷ (if excess then price_top 1 prices else None)
    ∷ [])

-- the reply to a close after n closes
abbrev pub close_reply : Terms → (ℕ → ℕ → List ℕ) → ℕ → Reply
close_reply terms held n = closing_reply (is_closed (stage_after terms held n)) (has_excess terms held n) (suc n) (prices_after terms held (suc n))

-- the reply to a line after these admitted lines
abbrev pub reply_after : Terms → List Event → Event → Reply
reply_after terms lines e =
    if is_close e then close_reply terms (held_in terms lines) (closes lines)
    else own_reply terms (line_bidder e) (standing terms lines (line_bidder e)) e

abbrev pub is_ok_reply : Reply → Bool
is_ok_reply reply.Ok = true
is_ok_reply _ = false

-- the admitted lines with one more, if it is admitted
abbrev pub with_line : Terms → List Event → Event → List Event
with_line terms lines e = if is_ok_reply (reply_after terms lines e) then e ∷ lines else lines

-- the admitted lines of a log
abbrev pub admitted : Terms → List Event → List Event
admitted terms [] = []
admitted terms (e ∷ log) = with_line terms (admitted terms log) e

-- the reply to a line after a log
unfoldable pub reply_to : Terms → List Event → Event → Reply
reply_to terms log e = reply_after terms (admitted terms log) e

-- The stage of the auction after a log, and the number of the round and the prices that are posted then. Once the clock has
-- stopped these are the final round's.
unfoldable pub log_stage : Terms → List Event → Stage
log_stage terms log = let lines = admitted terms log in stage_after terms (held_in terms lines) (closes lines)

unfoldable pub log_round : Terms → List Event → ℕ
log_round terms log = let lines = admitted terms log in round_after terms (held_in terms lines) (closes lines)

unfoldable pub log_prices : Terms → List Event → List ℕ
log_prices terms log = let lines = admitted terms log in prices_after terms (held_in terms lines) (round_after terms (held_in terms lines) (closes lines) - 1)
