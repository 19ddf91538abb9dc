-- The state of a desk, which takes the lines of a log one by one: what it keeps for all bidders at once.
use Rattle.std.specs.Prelude.{ℕ, suc, ◌-◌, Bool, not, ◌&&◌, List, [], ◌∷◌, ◌++◌, map, length, slice_index, slice_index_or, slice_set, if◌then◌else◌}
use Rattle.auction_rules.specs.declared.Event.{Event}
use Rattle.auction_rules.specs.declared.Event.TheVariants.{Bid, Draft, Drop, Submit, Close}
use Rattle.auction_rules.specs.declared.Reply.{Reply}
use Rattle.auction_rules.specs.declared.Stage.{Stage}
use Rattle.auction_model.specs.Book.{Book, BookBid}
use Rattle.auction_rules.specs.declared.Stage.TheVariants.{Clock, Sealed, Closed}
use Rattle.auction_model.specs.Package.{cost_of, is_within}
use Rattle.auction_rules.specs.Terms.{Terms, no_lots}
use Rattle.auction_rules.specs.BookOfLog.{book_bids, book_by}
use Rattle.auction_rules.specs.Rounds.{OwnRound, listing, sum_of, raised_prices, prices_after, eligibility_after, stage_after, round_after, closed_after}
use Rattle.auction_rules.specs.Lines.{is_close, line_bidder, closes, held_in, draft_list, submitted_list}
use Rattle.auction_model.specs.Entries.{with_entry, without_entry}
use Rattle.auction_rules.specs.Replies.{Standing, is_clock, is_closed, is_ok_reply, closing_reply, own_reply, admitted}

-- one closed clock round: the prices, and of each bidder its eligibility at the start and its package
pub record Round : Type 0 where
  pub prices : List ℕ
  pub eligibility : List ℕ
  pub held : List (List ℕ)

-- what a desk keeps. Once the clock has stopped, the prices, eligibilities and packages are the final round's
pub record DeskState : Type 0 where
  pub terms : Terms
  pub stage : Stage
  pub rounds : List Round
  pub prices : List ℕ
  pub eligibility : List ℕ
  pub held : List (List ℕ)
  pub drafts : List (List BookBid)
  pub submitted : List (List BookBid)

abbrev pub round_of : Terms → (ℕ → ℕ → List ℕ) → ℕ → Round
round_of terms held r = record {
  prices = prices_after terms held (r - 1);
  eligibility = listing (λ j. eligibility_after terms held j (r - 1)) (length terms.bidders);
  held = listing (held r) (length terms.bidders);
}

abbrev pub state_by : Terms → (ℕ → ℕ → List ℕ) → ℕ → (ℕ → List BookBid) → (ℕ → List BookBid) → DeskState
state_by terms held n drafts submitted = record {
  terms = terms;
  stage = stage_after terms held n;
  rounds = listing (round_of terms held) (closed_after terms held n);
  prices = prices_after terms held (round_after terms held n - 1);
  eligibility = listing (λ j. eligibility_after terms held j (round_after terms held n - 1)) (length terms.bidders);
  held = listing (held (round_after terms held n)) (length terms.bidders);
  drafts = listing drafts (length terms.bidders);
  submitted = listing submitted (length terms.bidders);
}

-- the state after these admitted lines
abbrev pub state_after : Terms → List Event → DeskState
state_after terms lines = state_by terms (held_in terms lines) (closes lines) (λ j. draft_list j lines) (λ j. submitted_list j lines)

-- a desk stands for a log when its state is this one
unfoldable pub state_of : Terms → List Event → DeskState
state_of terms log = state_after terms (admitted terms log)

-- a round as bidder j has it
abbrev pub own_of : ℕ → Round → OwnRound
own_of j r = record { prices = r.prices; eligibility = slice_index r.eligibility (j - 1); held = slice_index_or r.held (j - 1) [] }

-- the standing of bidder j in a state
abbrev pub standing_in : DeskState → ℕ → Standing
standing_in st j = record {
  stage = st.stage;
  rounds = map (own_of j) st.rounds;
  prices = st.prices;
  eligibility = slice_index st.eligibility (j - 1);
  held = slice_index_or st.held (j - 1) [];
  drafts = slice_index_or st.drafts (j - 1) [];
  submitted = slice_index_or st.submitted (j - 1) [];
}

-- the number of the posted round, and of the final one once the clock has stopped
abbrev pub round_in : DeskState → ℕ
round_in st = if is_clock st.stage then suc (length st.rounds) else length st.rounds

-- the book that a desk makes of its state
abbrev pub book_in : DeskState → Book
book_in st = book_by st.terms (λ j. book_bids (standing_in st j))

-- what is asked for together of a supply
abbrev pub asked_of : List ℕ → List (List ℕ) → List ℕ
asked_of supply held = sum_of (map (λ n. 0) supply) (λ j. slice_index_or held (j - 1) []) (length held)

-- what all bidders ask for together
abbrev pub asked : Terms → List (List ℕ) → List ℕ
asked terms held = asked_of terms.supply held

-- the posted round, as it is kept once it is closed
abbrev pub round_now : DeskState → Round
round_now st = record { prices = st.prices; eligibility = st.eligibility; held = st.held }

-- the state after an admitted close that posts a next round
abbrev pub next_round : DeskState → DeskState
next_round st = record {
  terms = st.terms;
  stage = Clock;
  rounds = st.rounds ++ round_now st ∷ [];
  prices = raised_prices st.terms.tick st.terms.thresholds st.prices (asked st.terms st.held) st.terms.supply;
  eligibility = map (cost_of st.terms.points) st.held;
  held = map (λ lots. no_lots st.terms) st.held;
  drafts = st.drafts;
  submitted = st.submitted;
}

-- the state after an admitted close that stops the clock
abbrev pub clock_stopped : DeskState → DeskState
clock_stopped st = record {
  terms = st.terms;
  stage = Sealed;
  rounds = st.rounds ++ round_now st ∷ [];
  prices = st.prices;
  eligibility = st.eligibility;
  held = st.held;
  drafts = st.drafts;
  submitted = st.submitted;
}

-- the state after an admitted close of the sealed round
abbrev pub desk_closed : DeskState → DeskState
desk_closed st = record {
  terms = st.terms;
  stage = Closed;
  rounds = st.rounds;
  prices = st.prices;
  eligibility = st.eligibility;
  held = st.held;
  drafts = st.drafts;
  submitted = st.submitted;
}

-- the state after an admitted close
abbrev pub closed_state : Stage → DeskState → DeskState
closed_state Clock st = if is_within (asked st.terms st.held) st.terms.supply then clock_stopped st else next_round st
closed_state Sealed st = desk_closed st
closed_state Closed st = desk_closed st

-- some count of what is asked for is above the supply, while the clock runs
abbrev pub has_excess_in : DeskState → Bool
has_excess_in st = is_clock st.stage && not (is_within (asked st.terms st.held) st.terms.supply)

-- the reply to a close
abbrev pub close_reply_in : DeskState → Reply
close_reply_in st =
    closing_reply (is_closed st.stage) (has_excess_in st) (suc (length st.rounds))
    (raised_prices st.terms.tick st.terms.thresholds st.prices (asked st.terms st.held) st.terms.supply)

-- the reply to a line in a state
abbrev pub reply_in : DeskState → Event → Reply
reply_in st e = if is_close e then close_reply_in st else own_reply st.terms (line_bidder e) (standing_in st (line_bidder e)) e

-- the drafts of bidder j
abbrev pub drafts_of : DeskState → ℕ → List BookBid
drafts_of st j = slice_index_or st.drafts (j - 1) []

-- the state after an admitted line
abbrev pub taken : DeskState → Event → DeskState
taken st (Bid j lots) = record {
  terms = st.terms;
  stage = st.stage;
  rounds = st.rounds;
  prices = st.prices;
  eligibility = st.eligibility;
  held = slice_set st.held (j - 1) lots;
  drafts = st.drafts;
  submitted = st.submitted;
}
taken st (Draft j lots amount) = record {
  terms = st.terms;
  stage = st.stage;
  rounds = st.rounds;
  prices = st.prices;
  eligibility = st.eligibility;
  held = st.held;
  drafts = slice_set st.drafts (j - 1) (with_entry lots amount (drafts_of st j));
  submitted = st.submitted;
}
taken st (Drop j lots) = record {
  terms = st.terms;
  stage = st.stage;
  rounds = st.rounds;
  prices = st.prices;
  eligibility = st.eligibility;
  held = st.held;
  drafts = slice_set st.drafts (j - 1) (without_entry lots (drafts_of st j));
  submitted = st.submitted;
}
taken st (Submit j) = record {
  terms = st.terms;
  stage = st.stage;
  rounds = st.rounds;
  prices = st.prices;
  eligibility = st.eligibility;
  held = st.held;
  drafts = st.drafts;
  submitted = slice_set st.submitted (j - 1) (drafts_of st j);
}
taken st Close = closed_state st.stage st

-- the state after a line
abbrev pub state_with : DeskState → Event → DeskState
state_with st e = if is_ok_reply (reply_in st e) then taken st e else st
