-- What drafts, drops and submissions make of the lists of a bidder they make of the state of a desk.
use Rattle.std.proofs.Common.{◌≡◌, ℕ, ◌-◌, ◌<◌, ◌≤◌, Bool, true, false, List, [], length, map, get_or, set, refl, sym, subst, ap, ◌∙◌, arith}
use Rattle.std.proofs.lemmas.Bool.{cond-true}
use Rattle.std.proofs.lemmas.List.{length-map, get_or-map, map-set}
use Rattle.std.proofs.Math.Seq.{map-set_same}
use Rattle.auction_model.specs.Book.{BookBid}
use Rattle.auction_rules.specs.declared.Event.{Event}
use Rattle.auction_rules.specs.declared.Event.TheVariants.{Draft, Drop, Submit}
use Rattle.auction_rules.specs.declared.Reply.TheVariants as reply
use Rattle.auction_model.specs.Entries.{with_entry, without_entry}
use Rattle.auction_rules.specs.declared.Stage.{Stage}
use Rattle.auction_rules.specs.declared.Stage.TheVariants as stages
use Rattle.auction_rules.specs.Replies.{is_clock, is_ok_reply, is_sealed}
use Rattle.auction_rules.specs.State.{DeskState, Round, drafts_of, reply_in, state_with, taken}
use Rattle.auction_rules.specs.Terms.{Terms}
use Rattle.clock_stage.specs.ClockState.{ClockState}
use Rattle.clock_stage.specs.Kept.{IsFor, categories_in}
use Rattle.bid_desk.specs.DeskValue.{desk_value}
use Rattle.bid_desk.specs.Known.{IsKnown}
use Rattle.bid_desk.specs.Lists.{Lists, lists_with}

-- the state with these lists
abbrev with_own : DeskState → List (List BookBid) → List (List BookBid) → DeskState
with_own st drafts submitted = record {
  terms = st.terms;
  stage = st.stage;
  rounds = st.rounds;
  prices = st.prices;
  eligibility = st.eligibility;
  held = st.held;
  drafts = drafts;
  submitted = submitted;
}

abbrev drafts_in : Lists → List BookBid
drafts_in l = l.drafts

abbrev submitted_in : Lists → List BookBid
submitted_in l = l.submitted

-- the state after lists of a bidder were replaced
own-state : (terms : Terms) (clock : ClockState) (closed : Bool) (bidders other : List Lists) (drafts submitted : List (List BookBid))
    → map drafts_in other ≡ drafts → map submitted_in other ≡ submitted
    → desk_value terms clock closed other ≡ with_own (desk_value terms clock closed bidders) drafts submitted
own-state terms clock closed bidders other drafts submitted by_drafts by_submitted =
    let st : DeskState = desk_value terms clock closed bidders in
    ap (λ (ds : List (List BookBid)). with_own st ds (map submitted_in other)) by_drafts ∙ ap (with_own st drafts) by_submitted

-- the draft list of a bidder in the state
pub drafts-read : (terms : Terms) (clock : ClockState) (closed : Bool) (bidders : List Lists) (j : ℕ) (d old : Lists) → j - 1 < length bidders
    → old ≡ get_or bidders (j - 1) d
    → old.drafts ≡ drafts_of (desk_value terms clock closed bidders) j
drafts-read terms clock closed bidders j d old inside read = ap drafts_in read ∙ sym (get_or-map drafts_in bidders (j - 1) d [] inside)

-- a bidder that is known has a place among the lists
pub known-place : (terms : Terms) (clock : ClockState) (closed : Bool) (bidders : List Lists) (j : ℕ) (now : DeskState)
    → desk_value terms clock closed bidders ≡ now → IsKnown now.terms now j
    → j - 1 < length bidders
known-place terms clock closed bidders j now view known =
    let own : IsKnown terms (desk_value terms clock closed bidders) j = subst (λ (st : DeskState). IsKnown st.terms st j) (sym view) known in
    omega (arith, own.drafts_there, length-map bidders drafts_in)

-- an admitted line that changes the draft list of its bidder alone
drafts-state : (terms : Terms) (clock : ClockState) (closed : Bool) (bidders : List Lists) (j : ℕ) (e : Event) (g : List BookBid → List BookBid)
    (d old new : Lists)
    → taken (desk_value terms clock closed bidders) e
    ≡ with_own (desk_value terms clock closed bidders) (set (map drafts_in bidders) (j - 1) (g (drafts_of (desk_value terms clock closed bidders) j)))
    (map submitted_in bidders)
    → reply_in (desk_value terms clock closed bidders) e ≡ reply.Ok → j - 1 < length bidders
    → old ≡ get_or bidders (j - 1) d → new ≡ lists_with (g old.drafts) old.submitted
    → desk_value terms clock closed (set bidders (j - 1) new) ≡ state_with (desk_value terms clock closed bidders) e
drafts-state terms clock closed bidders j e g d old new is ok inside read by =
    let st : DeskState = desk_value terms clock closed bidders in
    own-state terms clock closed bidders (set bidders (j - 1) new) _ _
    (map-set drafts_in bidders (j - 1) new
    ∙ ap (λ (l : Lists). set (map drafts_in bidders) (j - 1) l.drafts) by
    ∙ ap (λ (ds : List BookBid). set (map drafts_in bidders) (j - 1) (g ds)) (drafts-read terms clock closed bidders j d old inside read))
    (map-set_same submitted_in bidders (j - 1) new d (ap submitted_in by ∙ ap submitted_in read))
    ∙ sym is
    ∙ sym (cond-true (is_ok_reply (reply_in st e)) (taken st e) st (ap is_ok_reply ok))

-- the state after an admitted drop
pub drop-state : (terms : Terms) (clock : ClockState) (closed : Bool) (bidders : List Lists) (j : ℕ) (lots : List ℕ) (d old new : Lists)
    → reply_in (desk_value terms clock closed bidders) (Drop j lots) ≡ reply.Ok → j - 1 < length bidders
    → old ≡ get_or bidders (j - 1) d → new ≡ lists_with (without_entry lots old.drafts) old.submitted
    → desk_value terms clock closed (set bidders (j - 1) new) ≡ state_with (desk_value terms clock closed bidders) (Drop j lots)
drop-state terms clock closed bidders j lots d old new = drafts-state terms clock closed bidders j (Drop j lots) (without_entry lots) d old new refl

-- the state after an admitted draft
pub draft-state : (terms : Terms) (clock : ClockState) (closed : Bool) (bidders : List Lists) (j : ℕ) (lots : List ℕ) (amount : ℕ) (d old new : Lists)
    → reply_in (desk_value terms clock closed bidders) (Draft j lots amount) ≡ reply.Ok → j - 1 < length bidders
    → old ≡ get_or bidders (j - 1) d → new ≡ lists_with (with_entry lots amount old.drafts) old.submitted
    → desk_value terms clock closed (set bidders (j - 1) new) ≡ state_with (desk_value terms clock closed bidders) (Draft j lots amount)
draft-state terms clock closed bidders j lots amount d old new = drafts-state terms clock closed bidders j (Draft j lots amount)
    (with_entry lots amount) d old new refl

-- the state after an admitted submission
pub submit-state : (terms : Terms) (clock : ClockState) (closed : Bool) (bidders : List Lists) (j : ℕ) (d old new : Lists)
    → reply_in (desk_value terms clock closed bidders) (Submit j) ≡ reply.Ok → j - 1 < length bidders
    → old ≡ get_or bidders (j - 1) d → new ≡ lists_with old.drafts old.drafts
    → desk_value terms clock closed (set bidders (j - 1) new) ≡ state_with (desk_value terms clock closed bidders) (Submit j)
submit-state terms clock closed bidders j d old new ok inside read by =
    let st : DeskState = desk_value terms clock closed bidders in
    own-state terms clock closed bidders (set bidders (j - 1) new) _ _
    (map-set_same drafts_in bidders (j - 1) new d (ap drafts_in by ∙ ap drafts_in read))
    (map-set submitted_in bidders (j - 1) new
    ∙ ap (λ (l : Lists). set (map submitted_in bidders) (j - 1) l.submitted) by
    ∙ ap (λ (ds : List BookBid). set (map submitted_in bidders) (j - 1) ds) (drafts-read terms clock closed bidders j d old inside read))
    ∙ sym (cond-true (is_ok_reply (reply_in st (Submit j))) (taken st (Submit j)) st (ap is_ok_reply ok))

-- ---- the sealed round

-- once a desk is in the sealed round, the clock has stopped
pub sealed-clock : (stage : Stage) → is_sealed stage ≡ true → is_clock stage ≡ false
sealed-clock stages.Clock sealed = cc
sealed-clock stages.Sealed sealed = refl
sealed-clock stages.Closed sealed = cc

-- the history then has the categories of the award
pub categories-known : (terms : Terms) (clock : ClockState) (closed : Bool) (bidders : List Lists) (j : ℕ) (now : DeskState) (history : List Round)
    → desk_value terms clock closed bidders ≡ now → is_sealed now.stage ≡ true → IsKnown now.terms now j
    → (0 < length clock.rounds → categories_in history ≡ length clock.posted.prices) → IsFor terms clock → categories_in history ≡ length now.terms.supply
categories-known terms clock closed bidders j now history view sealed known by for =
    let some : 1 ≤ length now.rounds = known.some (sealed-clock now.stage sealed) in
    let rounds : clock.rounds ≡ now.rounds = ap (λ (s : DeskState). s.rounds) view in
    by (subst (λ (rs : List Round). 0 < length rs) (sym rounds) some) ∙ for.categories ∙ ap (λ (s : DeskState). length s.terms.supply) view
