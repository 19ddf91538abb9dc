-- The clock of a desk: what bids and closes make of a desk they make of its clock.
use Rattle.std.proofs.Common.{◌≡◌, ℕ, ◌-◌, Bool, true, false, List, [], ◌∷◌, length, refl, sym, ap, subst, ◌∙◌, inl, inr}
use Rattle.std.specs.Prelude.{if◌then◌else◌, slice_index, replicate, ◌⊎◌}
use Rattle.auction_model.specs.Package.{is_within}
use Rattle.auction_rules.specs.declared.Event.{Event}
use Rattle.auction_rules.specs.declared.Event.TheVariants.{Bid, Close}
use Rattle.auction_rules.specs.declared.Reply.{Reply}
use Rattle.auction_rules.specs.declared.Stage.{Stage}
use Rattle.auction_rules.specs.declared.Stage.TheVariants.{Clock, Sealed}
use Rattle.auction_rules.specs.declared.Stage.TheVariants as stage
use Rattle.auction_rules.specs.Terms.{Terms, entrant, no_lots}
use Rattle.auction_rules.specs.Replies.{bid_reply, is_clock, is_ok_reply, reply_to}
use Rattle.auction_rules.specs.Rounds.{listing}
use Rattle.auction_rules.specs.State.{DeskState, asked, clock_stopped, close_reply_in, closed_state, next_round, reply_in, state_of, state_with}
use Rattle.auction_rules.specs.State.{taken}
use Rattle.auction_rules.proofs.Stands.{reply_in-state_of, state_with-state_of}
use Rattle.clock_stage.specs.ClockState.{ClockState, clock_with, clock_of, round_with, reply_to_bid, after_bid, reply_to_close, after_close, clock_closed}
use Rattle.clock_stage.specs.declared.closes.Closed.{Closed}
use Rattle.clock_stage.specs.declared.closes.Closed.TheVariants.{Memory}
use Rattle.clock_stage.specs.Closings.{Tells}
use Rattle.clock_stage.proofs.Demands.{listing-same_each}

if-ap : {A B : Type 0} (f : A → B) (b : Bool) (x y : A) → f (if b then x else y) ≡ (if b then f x else f y)
if-ap f true x y = refl
if-ap f false x y = refl

runs_in_clock : (s : Stage) → is_clock s ≡ true → s ≡ Clock
runs_in_clock Clock runs = refl
runs_in_clock Sealed runs = cc
runs_in_clock stage.Closed runs = cc

module _ (terms : Terms) (st : DeskState) (same : st.terms ≡ terms) (runs : is_clock st.stage ≡ true) where
  bid-reply : (j : ℕ) (lots : List ℕ) → reply_in st (Bid j lots) ≡ reply_to_bid terms (clock_of st) j lots
  bid-reply j lots =
      ap (λ (t : Terms). bid_reply t st.stage (slice_index st.eligibility (j - 1)) j lots) same
      ∙ ap (λ (s : Stage). bid_reply terms s (slice_index st.eligibility (j - 1)) j lots) (runs_in_clock st.stage runs)

  bid-state : (j : ℕ) (lots : List ℕ) → clock_of (state_with st (Bid j lots)) ≡ after_bid terms (clock_of st) j lots
  bid-state j lots =
      if-ap clock_of (is_ok_reply (reply_in st (Bid j lots))) (taken st (Bid j lots)) st
      ∙ ap (λ (r : Reply). if is_ok_reply r then clock_of (taken st (Bid j lots)) else clock_of st) (bid-reply j lots)

-- the state with this stage and these terms
staged : Terms → Stage → DeskState → DeskState
staged terms stage st = record {
  terms = terms;
  stage = stage;
  rounds = st.rounds;
  prices = st.prices;
  eligibility = st.eligibility;
  held = st.held;
  drafts = st.drafts;
  submitted = st.submitted;
}

staged-reply : (terms : Terms) (st : DeskState) → close_reply_in (staged terms Clock st) ≡ reply_to_close terms (clock_of st)
unfolding staged
staged-reply terms st = refl

staged-closed : (terms : Terms) (st : DeskState) → clock_of (closed_state Clock (staged terms Clock st)) ≡ clock_closed terms (clock_of st)
unfolding staged
staged-closed terms st = if-ap clock_of (is_within (asked terms st.held) terms.supply) (clock_stopped (staged terms Clock st))
    (next_round (staged terms Clock st))

staged-clock : (terms : Terms) (st : DeskState) → is_clock st.stage ≡ true → clock_of (staged terms Clock st) ≡ clock_of st
unfolding staged
staged-clock terms st runs = ap (λ (b : Bool). clock_with b st.rounds (round_with st.prices st.eligibility st.held)) (sym runs)

staged-state : (terms : Terms) (st : DeskState) → is_clock st.stage ≡ true → clock_of (state_with (staged terms Clock st) Close) ≡ after_close terms
    (clock_of st)
unfolding staged
staged-state terms st runs =
    let u : DeskState = staged terms Clock st in
    let ok : Bool = is_ok_reply (reply_to_close terms (clock_of st)) in
    if-ap clock_of (is_ok_reply (close_reply_in u)) (closed_state Clock u) u
    ∙ ap (λ (r : Reply). if is_ok_reply r then clock_of (closed_state Clock u) else clock_of u) (staged-reply terms st)
    ∙ ap (λ (c : ClockState). if ok then c else clock_of u) (staged-closed terms st)
    ∙ ap (λ (c : ClockState). if ok then clock_closed terms (clock_of st) else c) (staged-clock terms st runs)

module _ (terms : Terms) (st : DeskState) (same : st.terms ≡ terms) (runs : is_clock st.stage ≡ true) where
  staged-is : st ≡ staged terms Clock st
  unfolding staged
  staged-is = ap (λ (t : Terms). staged t st.stage st) same ∙ ap (λ (s : Stage). staged terms s st) (runs_in_clock st.stage runs)

  close-reply : close_reply_in st ≡ reply_to_close terms (clock_of st)
  close-reply = ap close_reply_in staged-is ∙ staged-reply terms st

  close-state : clock_of (state_with st Close) ≡ after_close terms (clock_of st)
  close-state = ap (λ (s : DeskState). clock_of (state_with s Close)) staged-is ∙ staged-state terms st runs

-- the desk after a log has the terms of the award
pub terms-state_of : (terms : Terms) (log : List Event) → (state_of terms log).terms ≡ terms
unfolding state_of
terms-state_of terms log = refl

-- a clock that stands for a log, runs and takes a bid answers by the rules, and stands for the log with the bid
pub bid-stands : (terms : Terms) (log : List Event) (old new : ClockState) (j : ℕ) (lots : List ℕ) (r : Reply)
    → old ≡ clock_of (state_of terms log) → old.running ≡ true → r ≡ reply_to_bid terms old j lots → new ≡ after_bid terms old j lots
    → (r ≡ reply_to terms log (Bid j lots)) × (new ≡ clock_of (state_of terms (Bid j lots ∷ log)))
bid-stands terms log old new j lots r is running replied moved =
    let st : DeskState = state_of terms log in
    let same : st.terms ≡ terms = terms-state_of terms log in
    let runs : is_clock st.stage ≡ true = ap (λ (c : ClockState). c.running) (sym is) ∙ running in (
      replied ∙ ap (λ (c : ClockState). reply_to_bid terms c j lots) is ∙ sym (bid-reply terms st same runs j lots) ∙ reply_in-state_of terms log (Bid j lots),
      moved ∙ ap (λ (c : ClockState). after_bid terms c j lots) is ∙ sym (bid-state terms st same runs j lots)
          ∙ ap clock_of (state_with-state_of terms log (Bid j lots)),
    )

-- a clock that stands for a log, runs and takes a close answers by the rules, and stands for the log with the close
pub close-stands : (terms : Terms) (log : List Event) (old new : ClockState) (closed : Closed)
    → old ≡ clock_of (state_of terms log) → old.running ≡ true
    → ((closed ≡ Memory) × (new ≡ old)) ⊎ (Tells closed (reply_to_close terms old) new × (new ≡ after_close terms old))
    → ((closed ≡ Memory) × (new ≡ old)) ⊎ (Tells closed (reply_to terms log Close) new × (new ≡ clock_of (state_of terms (Close ∷ log))))
close-stands terms log old new closed is running moved =
    let st : DeskState = state_of terms log in
    let same : st.terms ≡ terms = terms-state_of terms log in
    let runs : is_clock st.stage ≡ true = ap (λ (c : ClockState). c.running) (sym is) ∙ running in
    let reply_is : reply_to_close terms old ≡ reply_to terms log Close = ap (reply_to_close terms) is ∙ sym (close-reply terms st same runs)
    ∙ reply_in-state_of terms log Close in
    let after_is : after_close terms old ≡ clock_of (state_of terms (Close ∷ log)) = ap (after_close terms) is ∙ sym (close-state terms st same runs)
    ∙ ap clock_of (state_with-state_of terms log Close) in
    elim moved [
      | inl kept ↦ inl kept
      | inr told ↦ inr (subst (λ (r : Reply). Tells closed r new) reply_is told.0, told.1 ∙ after_is)
    ]

-- the clock of round 1 stands for the empty log
pub start-stands : (terms : Terms) → clock_with true [] (round_with terms.reserves (listing (λ j. (entrant terms j).eligibility) (length terms.bidders))
    (replicate (length terms.bidders) (no_lots terms)))
    ≡ clock_of (state_of terms [])
unfolding state_of
start-stands terms =
    ap (λ (held : List (List ℕ)). clock_with true [] (round_with terms.reserves (listing (λ j. (entrant terms j).eligibility) (length terms.bidders)) held))
    (sym (listing-same_each (no_lots terms) (length terms.bidders)))
