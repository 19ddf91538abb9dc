-- A desk that stands for a log answers by the rules and then stands for the log with the line.
use Rattle.std.proofs.Common.{Bool, List, None, Option, Some, [], ap, arith, false, get_or, inl, inr, length, not, refl, set, subst, suc, sym, true}
use Rattle.std.proofs.Common.{zero, ℕ, ◌&&◌, ◌-◌, ◌<◌, ◌∙◌, ◌∷◌, ◌≡◌, ◌≤◌}
use Rattle.std.specs.Prelude.{if◌then◌else◌, nat_lt, nat_le, nat_eq}
use Rattle.std.proofs.lemmas.Bool.{cases_Bool, cond-true, cond-false, eq-eqb, leb-true, and_parts, eqb-true, false≢true}
use Rattle.auction_rules.specs.declared.Event.{Event}
use Rattle.auction_rules.specs.declared.Event.TheVariants.{Bid, Draft, Drop, Submit, Close}
use Rattle.auction_rules.specs.declared.Reply.{Reply}
use Rattle.auction_rules.specs.Terms.{Terms}
use Rattle.auction_rules.specs.Rounds.{demand, final_round, round_after, listing}
use Rattle.auction_rules.specs.Lines.{is_close, line_bidder, closes, held_in, draft_list, submitted_list}
use Rattle.auction_rules.specs.Replies.{Standing, is_of, is_clock, is_sealed, is_ok_reply, own_reply, close_reply, reply_after, reply_to, admitted, standing}
use Rattle.auction_rules.specs.State.{DeskState, round_of, state_after, state_of, asked, standing_in, close_reply_in, reply_in, taken, state_with}
use Rattle.auction_rules.proofs.Views.{is_close-true, with_line-ok, with_line-refused}
use Rattle.auction_model.specs.Book.{BookBid}
use Rattle.auction_rules.proofs.Standings.{IsFinal, IsFinal-final_round, after_own}
use Rattle.auction_rules.proofs.States.{with_standing, length-listing, standing_in-state_after, state_after-own}
use Rattle.auction_rules.proofs.Closing.{state_at, asked-listing, state_after-close}

-- the reply to a line of a stranger hangs on the stage alone
stranger : (terms : Terms) (j : ℕ) (s t : Standing) (e : Event) → s.stage ≡ t.stage → (nat_lt 0 j && nat_le j (length terms.bidders)) ≡ false
    → own_reply terms j s e ≡ own_reply terms j t e
stranger terms j s t (Bid k lots) same out = elim (cases_Bool (not (is_clock t.stage))) [ inl h ↦ rw (out, same, h) refl | inr h ↦ rw (out, same, h) refl ]
stranger terms j s t (Draft k lots amount) same out = elim (cases_Bool (not (is_sealed t.stage)))
    [ inl h ↦ rw (out, same, h) refl | inr h ↦ rw (out, same, h) refl ]
stranger terms j s t (Drop k lots) same out = elim (cases_Bool (not (is_sealed t.stage))) [ inl h ↦ rw (out, same, h) refl | inr h ↦ rw (out, same, h) refl ]
stranger terms j s t (Submit k) same out = elim (cases_Bool (not (is_sealed t.stage))) [ inl h ↦ rw (out, same, h) refl | inr h ↦ rw (out, same, h) refl ]
stranger terms j s t Close same out = refl

stranger-refused : (terms : Terms) (j : ℕ) (s : Standing) (e : Event) → is_close e ≡ false → (nat_lt 0 j && nat_le j (length terms.bidders)) ≡ false
    → is_ok_reply (own_reply terms j s e) ≡ false
stranger-refused terms j s (Bid k lots) c out = elim (cases_Bool (not (is_clock s.stage))) [ inl h ↦ rw h refl | inr h ↦ rw (h, out) refl ]
stranger-refused terms j s (Draft k lots amount) c out = elim (cases_Bool (not (is_sealed s.stage))) [ inl h ↦ rw h refl | inr h ↦ rw (h, out) refl ]
stranger-refused terms j s (Drop k lots) c out = elim (cases_Bool (not (is_sealed s.stage))) [ inl h ↦ rw h refl | inr h ↦ rw (h, out) refl ]
stranger-refused terms j s (Submit k) c out = elim (cases_Bool (not (is_sealed s.stage))) [ inl h ↦ rw h refl | inr h ↦ rw (h, out) refl ]
stranger-refused terms j s Close c out = cc

-- the reply to a close by the state
close_by : (terms : Terms) (held : ℕ → ℕ → List ℕ) (n : ℕ) (drafts submitted : ℕ → List BookBid) (final : Option ℕ) → IsFinal n final
    → final_round terms held n ≡ final
    → close_reply_in (state_at terms held n final drafts submitted) ≡ close_reply terms held n
close_by terms held n drafts submitted None f h =
    let sum : asked terms (listing (held (suc n)) (length terms.bidders)) ≡ demand terms held (suc n) =
    asked-listing terms (held (suc n)) (length terms.bidders) in
    let len : length (listing (round_of terms held) n) ≡ n = length-listing (round_of terms held) n in
    let e : suc n - 1 ≡ n = omega arith in
    rw (sum, len, e, h) refl
close_by terms held n drafts submitted (Some final) f h =
    elim (cases_Bool (nat_eq n final)) [
      | inl last ↦ rw (h, last) refl
      | inr past ↦ rw (h, past) refl
    ]

-- a bidder of the award is at a place
data BidderOf (n j : ℕ) : Type 0 where
  at_place : (k : ℕ) → j ≡ suc k → k < n → BidderOf n j
  nobody : (nat_lt 0 j && nat_le j n) ≡ false → BidderOf n j

cases_bidder : (n j : ℕ) → BidderOf n j
cases_bidder n zero = nobody refl
cases_bidder n (suc k) =
    elim (cases_Bool (nat_lt 0 (suc k) && nat_le (suc k) n)) [
      | inl known ↦ let few : suc k ≤ n = leb-true (suc k) n (and_parts (nat_lt 0 (suc k)) (nat_le (suc k) n) known).1 in at_place k refl (omega arith)
      | inr strange ↦ nobody strange
    ]

by_bidder : (terms : Terms) (lines : List Event) (e : Event) (j : ℕ) → own_reply terms j (standing_in (state_after terms lines) j) e ≡ own_reply terms j
    (standing terms lines j) e
by_bidder terms lines e j =
    elim (cases_bidder (length terms.bidders) j) [
      | at_place k is few ↦
          let P : ℕ → Type 0 = λ j. own_reply terms j (standing_in (state_after terms lines) j) e ≡ own_reply terms j (standing terms lines j) e in
          subst P (sym is) (ap (λ (s : Standing). own_reply terms (suc k) s e) (standing_in-state_after terms lines k few))
      | nobody out ↦ stranger terms j (standing_in (state_after terms lines) j) (standing terms lines j) e refl out
    ]

-- the state of a log gives the replies of the rules
pub reply_in-state_after : (terms : Terms) (lines : List Event) (e : Event) → reply_in (state_after terms lines) e ≡ reply_after terms lines e
reply_in-state_after terms lines e =
    let final : Option ℕ = final_round terms (held_in terms lines) (closes lines) in
    let st : DeskState = state_after terms lines in
    elim (cases_Bool (is_close e)) [
      | inl close ↦ cond-true (is_close e) (close_reply_in st) _ close
          ∙ close_by terms (held_in terms lines) (closes lines) (λ j. draft_list j lines) (λ j. submitted_list j lines) final
          (IsFinal-final_round terms (held_in terms lines) (closes lines) final refl) refl
          ∙ sym (cond-true (is_close e) (close_reply terms (held_in terms lines) (closes lines)) _ close)
      | inr other ↦ cond-false (is_close e) (close_reply_in st) (own_reply terms (line_bidder e) (standing_in st (line_bidder e)) e) other
          ∙ by_bidder terms lines e (line_bidder e)
          ∙ sym (cond-false (is_close e) (close_reply terms (held_in terms lines) (closes lines))
          (own_reply terms (line_bidder e) (standing terms lines (line_bidder e)) e) other)
    ]

-- a choice between a package and itself is this package
pub same_either : (b : Bool) (x : List ℕ) → (if b then x else x) ≡ x
same_either true x = refl
same_either false x = refl

-- a write of what is there already
set_again : {A : Type 0} (xs : List A) (k : ℕ) (d : A) → k < length xs → set xs k (get_or xs k d) ≡ xs
set_again [] k d h = absurd (omega arith)
set_again (x ∷ xs) zero d h = refl
set_again (x ∷ xs) (suc k) d h = ap (λ (ys : List _). x ∷ ys) (set_again xs k d (omega arith))

-- each bidder has a place in the lists of the state
record HasPlaces (st : DeskState) (k : ℕ) : Type 0 where
  held : k < length st.held
  drafts : k < length st.drafts
  submitted : k < length st.submitted

-- a bid is admitted in the clock alone
bid-clock : (terms : Terms) (j : ℕ) (s : Standing) (k : ℕ) (lots : List ℕ) → is_ok_reply (own_reply terms j s (Bid k lots)) ≡ true → is_clock s.stage ≡ true
bid-clock terms j s k lots ok = elim (cases_Bool (is_clock s.stage)) [ inl clock ↦ clock | inr other ↦ let no : false ≡ true = rw other at ok in cc ]

-- what is taken is what changes of the bidder's standing
taken-own : (terms : Terms) (st : DeskState) (k : ℕ) (e : Event) → HasPlaces st k → is_of (suc k) e ≡ true
    → is_ok_reply (own_reply terms (suc k) (standing_in st (suc k)) e) ≡ true
    → with_standing st k (after_own (suc k) (standing_in st (suc k)) e) ≡ taken st e
taken-own terms st k (Bid j lots) places mine ok =
    let clock : is_clock st.stage ≡ true = bid-clock terms (suc k) (standing_in st (suc k)) j lots ok in
    let same : j ≡ suc k = eqb-true j (suc k) mine in
    let e : suc k - 1 ≡ k = omega arith in
    rw (clock, mine, same, e, set_again st.drafts k [] places.drafts, set_again st.submitted k [] places.submitted) refl
taken-own terms st k (Draft j lots amount) places mine ok =
    let same : j ≡ suc k = eqb-true j (suc k) mine in
    let e : suc k - 1 ≡ k = omega arith in
    rw (
      same_either (is_clock st.stage) (get_or st.held (suc k - 1) []),
      same,
      e,
      set_again st.held k [] places.held,
      set_again st.submitted k [] places.submitted,
    ) refl
taken-own terms st k (Drop j lots) places mine ok =
    let same : j ≡ suc k = eqb-true j (suc k) mine in
    let e : suc k - 1 ≡ k = omega arith in
    rw (
      same_either (is_clock st.stage) (get_or st.held (suc k - 1) []),
      same,
      e,
      set_again st.held k [] places.held,
      set_again st.submitted k [] places.submitted,
    ) refl
taken-own terms st k (Submit j) places mine ok =
    let same : j ≡ suc k = eqb-true j (suc k) mine in
    let e : suc k - 1 ≡ k = omega arith in
    rw (
      same_either (is_clock st.stage) (get_or st.held (suc k - 1) []),
      mine,
      same,
      e,
      set_again st.held k [] places.held,
      set_again st.drafts k [] places.drafts,
    ) refl
taken-own terms st k Close places mine ok = cc

has_places : (terms : Terms) (lines : List Event) (k : ℕ) → k < length terms.bidders → HasPlaces (state_after terms lines) k
has_places terms lines k few = record {
  held = rw (length-listing (held_in terms lines (round_after terms (held_in terms lines) (closes lines))) (length terms.bidders)) few;
  drafts = rw (length-listing (λ j. draft_list j lines) (length terms.bidders)) few;
  submitted = rw (length-listing (λ j. submitted_list j lines) (length terms.bidders)) few;
}

-- an admitted line
pub taken-state_after : (terms : Terms) (lines : List Event) (e : Event) → is_ok_reply (reply_after terms lines e) ≡ true
    → taken (state_after terms lines) e ≡ state_after terms (e ∷ lines)
taken-state_after terms lines e ok =
    let st : DeskState = state_after terms lines in
    elim (cases_Bool (is_close e)) [
      | inl close ↦
          let P : Event → Type 0 = λ e. taken (state_after terms lines) e ≡ state_after terms (e ∷ lines) in
          subst P (sym (is_close-true e close)) (sym (state_after-close terms lines))
      | inr other ↦
          let ok' : is_ok_reply (own_reply terms (line_bidder e) (standing terms lines (line_bidder e)) e) ≡ true
          = ap is_ok_reply (sym (cond-false (is_close e) (close_reply terms (held_in terms lines) (closes lines))
          (own_reply terms (line_bidder e) (standing terms lines (line_bidder e)) e) other)) ∙ ok in
          elim (cases_bidder (length terms.bidders) (line_bidder e)) [
            | nobody out ↦ let no : false ≡ true = sym (stranger-refused terms (line_bidder e) (standing terms lines (line_bidder e)) e other out) ∙ ok' in
                absurd (false≢true no)
            | at_place k is few ↦
                let mine : is_of (suc k) e ≡ true = rw (other, eq-eqb (line_bidder e) (suc k) is) refl in
                let here : standing_in st (suc k) ≡ standing terms lines (suc k) = standing_in-state_after terms lines k few in
                let at_k : is_ok_reply (own_reply terms (suc k) (standing terms lines (suc k)) e) ≡ true =
                subst (λ j. is_ok_reply (own_reply terms j (standing terms lines j) e) ≡ true) is ok' in
                sym (taken-own terms st k e (has_places terms lines k few) mine (ap (λ (s : Standing). is_ok_reply (own_reply terms (suc k) s e)) here ∙ at_k))
                ∙ ap (λ (s : Standing). with_standing st k (after_own (suc k) s e)) here
                ∙ sym (state_after-own terms k e lines mine few)
          ]
    ]

-- the step of a desk that stands for a log
pub state_with-state_of : (terms : Terms) (log : List Event) (e : Event) → state_with (state_of terms log) e ≡ state_of terms (e ∷ log)
unfolding state_of
state_with-state_of terms log e =
    let lines : List Event = admitted terms log in
    let same : is_ok_reply (reply_in (state_after terms lines) e) ≡ is_ok_reply (reply_after terms lines e) =
    ap is_ok_reply (reply_in-state_after terms lines e) in
    elim (cases_Bool (is_ok_reply (reply_after terms lines e))) [
      | inl ok ↦ cond-true (is_ok_reply (reply_in (state_after terms lines) e)) (taken (state_after terms lines) e) (state_after terms lines) (same ∙ ok)
          ∙ taken-state_after terms lines e ok ∙ ap (state_after terms) (sym (with_line-ok terms lines e ok))
      | inr refused ↦ cond-false (is_ok_reply (reply_in (state_after terms lines) e)) (taken (state_after terms lines) e) (state_after terms lines)
          (same ∙ refused)
          ∙ ap (state_after terms) (sym (with_line-refused terms lines e refused))
    ]

-- from the state of a log a line gets the reply that the rules give after the log
pub reply_in-state_of : (terms : Terms) (log : List Event) (e : Event) → reply_in (state_of terms log) e ≡ reply_to terms log e
unfolding state_of reply_to
reply_in-state_of terms log e = reply_in-state_after terms (admitted terms log) e

-- a desk that stands for a log, and whose reply and new state are those of its state, answers by the rules and stands for the
-- log with the line
pub stands : (st new : DeskState) (terms : Terms) (log : List Event) (e : Event) (r : Reply) → st ≡ state_of terms log → r ≡ reply_in st e
    → new ≡ state_with st e
    → (r ≡ reply_to terms log e) × (new ≡ state_of terms (e ∷ log))
stands st new terms log e r is replied moved = (
  replied ∙ ap (λ (st : DeskState). reply_in st e) is ∙ reply_in-state_of terms log e,
  moved ∙ ap (λ (st : DeskState). state_with st e) is
      ∙ state_with-state_of terms log e,
)
