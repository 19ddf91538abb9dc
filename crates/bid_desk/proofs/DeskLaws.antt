-- What bids and closes make of the fields of a desk they make of its state, and a desk that stands for a log stands for one more line.
use Rattle.std.proofs.Common.{◌≡◌, ℕ, zero, suc, Bool, true, false, List, ◌∷◌, refl, sym, ap, subst, ◌∙◌, inl, inr, map, length, []}
use Rattle.std.specs.Prelude.{replicate, if◌then◌else◌}
use Rattle.std.specs.List.{AllByRecursion}
use Rattle.std.proofs.lemmas.Bool.{cases_Bool, false≢true}
use Rattle.auction_model.specs.Book.{BookBid}
use Rattle.auction_model.specs.Package.{is_within}
use Rattle.auction_rules.specs.Rounds.{listing}
use Rattle.auction_rules.specs.declared.Event.{Event}
use Rattle.auction_rules.specs.declared.Event.TheVariants.{Close}
use Rattle.auction_rules.specs.declared.Event.TheVariants as event_kind
use Rattle.auction_rules.specs.declared.Reply.{Reply}
use Rattle.auction_rules.specs.declared.Stage.TheVariants as stage
use Rattle.auction_rules.specs.Terms.{Terms}
use Rattle.auction_rules.specs.Lawful.{HasCategories}
use Rattle.auction_rules.specs.Replies.{is_clock, is_ok_reply}
use Rattle.auction_rules.specs.State.{DeskState, Round, asked, reply_in, state_of, state_with}
use Rattle.auction_rules.proofs.Stands.{state_with-state_of}
use Rattle.clock_stage.specs.ClockState.{ClockState, after_bid, after_close, clock_of, clock_with, reply_to_bid, reply_to_close}
use Rattle.clock_stage.specs.declared.closes.Closed.{Closed}
use Rattle.clock_stage.specs.declared.closes.Closed.TheVariants.{Full, Memory, NextRound, PriceTop, StageEnds}
use Rattle.clock_stage.specs.Closings.{Tells}
use Rattle.clock_stage.proofs.Demands.{listing-same_each}
use Rattle.bid_desk.specs.Lists.{Lists, lists_with}
use Rattle.bid_desk.specs.Closes.{reply_value}
use Rattle.bid_desk.specs.DeskValue.{desk_value, stage_value}
use Rattle.bid_desk.specs.Reached.{IsReached}

-- a desk in the clock isn't closed, and its clock runs
pub clock-stage : (running closed : Bool) → stage_value running closed ≡ stage.Clock → (running ≡ true) × (closed ≡ false)
clock-stage true false is = (refl, refl)
clock-stage false false is = cc
clock-stage true true is = cc
clock-stage false true is = cc

-- a desk in the sealed round isn't closed, and its clock has ended
pub sealed-stage : (running closed : Bool) → stage_value running closed ≡ stage.Sealed → (running ≡ false) × (closed ≡ false)
sealed-stage false false is = (refl, refl)
sealed-stage true false is = cc
sealed-stage true true is = cc
sealed-stage false true is = cc

-- the number of the clock's round is that of the desk
pub round-same : (running closed : Bool) (n : ℕ) → (closed ≡ true → running ≡ false)
    → (if running then suc n else n) ≡ (if is_clock (stage_value running closed) then suc n else n)
round-same true false n ended = refl
round-same false false n ended = refl
round-same false true n ended = refl
round-same true true n ended = absurd (false≢true (sym (ended refl)))

-- a fact of a running clock
runs : (P : ClockState → Type 0) (clock : ClockState) → clock.running ≡ true → P (clock_with true clock.rounds clock.posted) → P clock
runs P clock running = subst P (sym (ap (λ (b : Bool). clock_with b clock.rounds clock.posted) running))

-- the reply to a bid
pub bid-reply : (terms : Terms) (clock : ClockState) (closed : Bool) (bidders : List Lists) (j : ℕ) (lots : List ℕ) → clock.running ≡ true → closed ≡ false
    → reply_to_bid terms clock j lots ≡ reply_in (desk_value terms clock closed bidders) (event_kind.Bid j lots)
bid-reply terms clock closed bidders j lots running unclosed =
    subst (λ (b : Bool). reply_to_bid terms clock j lots ≡ reply_in (desk_value terms clock b bidders) (event_kind.Bid j lots)) (sym unclosed)
    (runs (λ (c : ClockState). reply_to_bid terms c j lots ≡ reply_in (desk_value terms c false bidders) (event_kind.Bid j lots)) clock running refl)

-- the state after a bid, while the clock runs
bid-running : (terms : Terms) (rounds : List Round) (posted : Round) (bidders : List Lists) (j : ℕ) (lots : List ℕ)
    → desk_value terms (after_bid terms (clock_with true rounds posted) j lots) false bidders ≡ state_with
    (desk_value terms (clock_with true rounds posted) false bidders) (event_kind.Bid j lots)
bid-running terms rounds posted bidders j lots =
    elim (cases_Bool (is_ok_reply (reply_to_bid terms (clock_with true rounds posted) j lots))) [
      | inl ok ↦ rw ok refl
      | inr refused ↦ rw refused refl
    ]

-- the state after a bid
pub bid-state : (terms : Terms) (clock new : ClockState) (closed : Bool) (bidders : List Lists) (j : ℕ) (lots : List ℕ) → clock.running ≡ true → closed ≡ false
    → new ≡ after_bid terms clock j lots → desk_value terms new closed bidders ≡ state_with (desk_value terms clock closed bidders) (event_kind.Bid j lots)
bid-state terms clock new closed bidders j lots running unclosed is =
    ap (λ (c : ClockState). desk_value terms c closed bidders) is
    ∙ subst (λ (b : Bool). desk_value terms (after_bid terms clock j lots) b bidders ≡ state_with (desk_value terms clock b bidders) (event_kind.Bid j lots))
    (sym unclosed)
    (runs (λ (c : ClockState). desk_value terms (after_bid terms c j lots) false bidders ≡ state_with (desk_value terms c false bidders) (event_kind.Bid j lots)) clock
    running
    (bid-running terms clock.rounds clock.posted bidders j lots))

-- the reply to a close
pub close-reply : (terms : Terms) (clock : ClockState) (closed : Bool) (bidders : List Lists) → clock.running ≡ true → closed ≡ false
    → reply_to_close terms clock ≡ reply_in (desk_value terms clock closed bidders) Close
close-reply terms clock closed bidders running unclosed =
    subst (λ (b : Bool). reply_to_close terms clock ≡ reply_in (desk_value terms clock b bidders) Close) (sym unclosed)
    (runs (λ (c : ClockState). reply_to_close terms c ≡ reply_in (desk_value terms c false bidders) Close) clock running refl)

-- the state after a close, while the clock runs
close-running : (terms : Terms) (rounds : List Round) (posted : Round) (bidders : List Lists)
    → desk_value terms (after_close terms (clock_with true rounds posted)) false bidders ≡ state_with
    (desk_value terms (clock_with true rounds posted) false bidders) Close
close-running terms rounds posted bidders =
    elim (cases_Bool (is_ok_reply (reply_to_close terms (clock_with true rounds posted)))) [
      | inl ok ↦ elim (cases_Bool (is_within (asked terms posted.held) terms.supply)) [
        | inl met ↦ rw (ok, met) refl
        | inr excess ↦ rw (ok, excess) refl
      ]
      | inr refused ↦ rw refused refl
    ]

-- the state after a close
pub close-state : (terms : Terms) (clock new : ClockState) (closed : Bool) (bidders : List Lists) → clock.running ≡ true → closed ≡ false
    → new ≡ after_close terms clock → desk_value terms new closed bidders ≡ state_with (desk_value terms clock closed bidders) Close
close-state terms clock new closed bidders running unclosed is =
    ap (λ (c : ClockState). desk_value terms c closed bidders) is
    ∙ subst (λ (b : Bool). desk_value terms (after_close terms clock) b bidders ≡ state_with (desk_value terms clock b bidders) Close) (sym unclosed)
    (runs (λ (c : ClockState). desk_value terms (after_close terms c) false bidders ≡ state_with (desk_value terms c false bidders) Close) clock running
    (close-running terms clock.rounds clock.posted bidders))

-- what a clock says is the reply
pub told-reply : (closed : Closed) (r : Reply) (new : ClockState) → Tells closed r new → reply_value closed ≡ r
told-reply (NextRound n) r new tells = sym tells.0
told-reply StageEnds r new tells = sym tells.0
told-reply (Full n) r new tells = sym tells
told-reply (PriceTop category price) r new tells = sym tells
told-reply Memory r new tells = absurd tells

-- a desk that stands for a log stands for the log with the line that it took
pub reached-next : (old new : DeskState) (line : Event) → IsReached old → HasCategories old.terms line → new.terms ≡ old.terms → new ≡ state_with old line
    → IsReached new
reached-next old new line reached categories same is = record {
  log = line ∷ reached.log;
  categories = subst (λ (t : Terms). AllByRecursion (HasCategories t) (line ∷ reached.log)) (sym same) (categories, reached.categories);
  stands = is ∙ ap (λ (s : DeskState). state_with s line) reached.stands ∙ state_with-state_of old.terms reached.log line
      ∙ ap (λ (t : Terms). state_of t (line ∷ reached.log)) (sym same);
}

-- the state after the close of the sealed round
pub sealed-state : (terms : Terms) (clock : ClockState) (closed : Bool) (bidders : List Lists) → stage_value clock.running closed ≡ stage.Sealed
    → desk_value terms clock true bidders ≡ state_with (desk_value terms clock closed bidders) Close
sealed-state terms clock closed bidders is =
    let parts : (clock.running ≡ false) × (closed ≡ false) = sealed-stage clock.running closed is in
    subst (λ (b : Bool). desk_value terms clock true bidders ≡ state_with (desk_value terms clock b bidders) Close) (sym parts.1)
    (subst (λ (c : ClockState). desk_value terms c true bidders ≡ state_with (desk_value terms c false bidders) Close)
    (sym (ap (λ (b : Bool). clock_with b clock.rounds clock.posted) parts.0)) refl)

-- the desk of this clock with these lists, before the sealed round is closed
abbrev with_lists : Terms → ClockState → List (List BookBid) → List (List BookBid) → DeskState
with_lists terms clock drafts submitted = record {
  terms = terms;
  stage = stage_value clock.running false;
  rounds = clock.rounds;
  prices = clock.posted.prices;
  eligibility = clock.posted.eligibility;
  held = clock.posted.held;
  drafts = drafts;
  submitted = submitted;
}

start-lists : (terms : Terms) → with_lists terms (clock_of (state_of terms [])) (listing (λ j. []) (length terms.bidders))
    (listing (λ j. []) (length terms.bidders)) ≡ state_of terms []
unfolding state_of
start-lists terms = refl

map-same : {A B : Type 0} (f : A → B) (n : ℕ) (x : A) → map f (replicate n x) ≡ replicate n (f x)
map-same f zero x = refl
map-same f (suc n) x = ap (λ (xs : List _). f x ∷ xs) (map-same f n x)

-- an empty list for each bidder
empty-each : (f : Lists → List BookBid) (n : ℕ) → f (lists_with [] []) ≡ [] → map f (replicate n (lists_with [] [])) ≡ listing (λ j. []) n
empty-each f n none = map-same f n (lists_with [] []) ∙ ap (replicate n) none ∙ sym (listing-same_each {A = List BookBid} [] n)

-- the state of a desk at which no line has been taken
pub start-state : (terms : Terms) (clock : ClockState) (count : ℕ) (bidders : List Lists) → clock ≡ clock_of (state_of terms []) → count ≡ length terms.bidders
    → bidders ≡ replicate count (lists_with [] []) → desk_value terms clock false bidders ≡ state_of terms []
start-state terms clock count bidders is all empty =
    let same : bidders ≡ replicate (length terms.bidders) (lists_with [] []) = empty ∙ ap (λ (n : ℕ). replicate n (lists_with [] [])) all in
    ap (λ (c : ClockState). desk_value terms c false bidders) is
    ∙ ap (λ (ls : List Lists). desk_value terms (clock_of (state_of terms [])) false ls) same
    ∙ ap (λ (ds : List (List BookBid)). with_lists terms (clock_of (state_of terms [])) ds
    (map (λ (l : Lists). l.submitted) (replicate (length terms.bidders) (lists_with [] []))))
    (empty-each (λ (l : Lists). l.drafts) (length terms.bidders) refl)
    ∙ ap (with_lists terms (clock_of (state_of terms [])) (listing (λ j. []) (length terms.bidders)))
    (empty-each (λ (l : Lists). l.submitted) (length terms.bidders) refl)
    ∙ start-lists terms

-- a desk in the state of the empty log stands for a log
pub reached-start : (terms : Terms) (desk : DeskState) → desk.terms ≡ terms → desk ≡ state_of terms [] → IsReached desk
reached-start terms desk same is = record { log = []; categories = tt; stands = is ∙ ap (λ (t : Terms). state_of t []) (sym same) }
