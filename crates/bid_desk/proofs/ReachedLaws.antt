-- What a desk that stands for a log has for each bidder of the award.
use Rattle.std.proofs.Common.{◌≡◌, ℕ, zero, suc, ◌≤◌, false, List, [], ◌∷◌, None, length, map, refl, sym, subst, ◌∙◌, arith}
use Rattle.std.specs.Prelude.{sum}
use Rattle.std.specs.List.{AllByRecursion}
use Rattle.std.proofs.lemmas.List.{length-map}
use Rattle.auction_model.specs.Book.{BookBid}
use Rattle.auction_model.specs.Package.{cost_of}
use Rattle.auction_rules.specs.declared.Event.{Event}
use Rattle.auction_rules.specs.Terms.{Terms, entrant, final_cap}
use Rattle.auction_rules.specs.Caps as caps
use Rattle.auction_rules.specs.Caps.{list_fault}
use Rattle.auction_rules.specs.Lawful.{AreDrafts, HasCategories, IsDraft}
use Rattle.auction_rules.specs.Lines.{draft_list, submitted_list}
use Rattle.auction_rules.specs.Replies.{Standing, admitted, is_clock, standing}
use Rattle.auction_rules.specs.State.{DeskState, Round, own_of, standing_in, state_of}
use Rattle.auction_rules.proofs.KeptStandings.{AreDrafts-drafts, AreDrafts-submitted, rounds-first, rounds-some}
use Rattle.auction_rules.proofs.LawfulBids.{each-weaker}
use Rattle.auction_rules.proofs.Sound.{IsSound-standing}
use Rattle.auction_rules.proofs.States.{length-listing, standing_in-state_after}
use Rattle.relative_cap.specs.OwnRounds.{eligibility_in}
use Rattle.bid_desk.specs.Lists.{IsKept, IsKeptEntry}
use Rattle.bid_desk.specs.Known.{IsKnown}
use Rattle.bid_desk.specs.Reached.{IsReached}

-- the standing of a bidder of the award in the state after a log is that after the log
standing-of : (terms : Terms) (log : List Event) (j : ℕ) → 1 ≤ j → j ≤ length terms.bidders → standing_in (state_of terms log) j ≡ standing terms
    (admitted terms log) j
unfolding state_of
standing-of terms log zero low high = absurd (omega arith)
standing-of terms log (suc k) low high = standing_in-state_after terms (admitted terms log) k (omega arith)

-- there is a draft list for each bidder
drafts-count : (terms : Terms) (log : List Event) → length (state_of terms log).drafts ≡ length terms.bidders
unfolding state_of
drafts-count terms log = length-listing (λ j. draft_list j (admitted terms log)) (length terms.bidders)

-- there is a submitted list for each bidder
pub submitted-count : (terms : Terms) (log : List Event) → length (state_of terms log).submitted ≡ length terms.bidders
unfolding state_of
submitted-count terms log = length-listing (λ j. submitted_list j (admitted terms log)) (length terms.bidders)

-- the eligibility of the first round of a history
first-eligibility : (j : ℕ) (rounds : List Round) → 1 ≤ length rounds → (caps.round_at (map (own_of j) rounds) 1).eligibility ≡ eligibility_in rounds j 1
first-eligibility j [] some = absurd (omega arith)
first-eligibility j (r ∷ rounds) some = refl

-- drafts are kept in order, and are small, if the supply has no more lots than it may
drafts-kept : (terms : Terms) (j : ℕ) (list : List BookBid) → sum terms.supply ≤ 40 → AreDrafts terms j list → IsKept (length terms.supply) list
drafts-kept terms j list lots are = record {
  each = each-weaker (IsDraft terms j) (IsKeptEntry (length terms.supply)) list
      (λ (b : BookBid) (d : IsDraft terms j b). record { count = d.lawful.categories; few = omega (arith, d.few, lots); amount = d.lawful.top }) are.each;
  order = are.order;
}

-- each of them has no more points than the bidder is eligible for by the award
drafts-points : (terms : Terms) (j : ℕ) (list : List BookBid) → AreDrafts terms j list → AllByRecursion
    (λ (b : BookBid). cost_of terms.points b.lots ≤ (entrant terms j).eligibility) list
drafts-points terms j list are =
    each-weaker (IsDraft terms j) (λ (b : BookBid). cost_of terms.points b.lots ≤ (entrant terms j).eligibility) list
    (λ (b : BookBid) (d : IsDraft terms j b). d.points) are.each

-- after a log
known-of : (terms : Terms) (log : List Event) (j : ℕ) → sum terms.supply ≤ 40 → AllByRecursion (HasCategories terms) log → 1 ≤ j → j ≤ length terms.bidders
    → IsKnown terms (state_of terms log) j
known-of terms log j lots categories low high =
    let st : DeskState = state_of terms log in
    let s : Standing = standing terms (admitted terms log) j in
    let is : standing_in st j ≡ s = standing-of terms log j low high in
    let count : length (map (own_of j) st.rounds) ≡ length st.rounds = length-map st.rounds (own_of j) in
    let rounds : (is_clock st.stage ≡ false) → 1 ≤ length st.rounds
    = λ over. omega (arith, count, subst (λ (t : Standing). is_clock t.stage ≡ false → 1 ≤ length t.rounds) (sym is) (rounds-some terms log j) over) in
    let drafts : AreDrafts terms j (standing_in st j).drafts = subst (λ (t : Standing). AreDrafts terms j t.drafts) (sym is)
    (AreDrafts-drafts terms log j categories) in
    let submitted : AreDrafts terms j (standing_in st j).submitted = subst (λ (t : Standing). AreDrafts terms j t.submitted) (sym is)
    (AreDrafts-submitted terms log j categories) in
    record {
      first = low;
      last = high;
      drafts_there = omega (arith, drafts-count terms log);
      submitted_there = omega (arith, submitted-count terms log);
      drafts = drafts;
      submitted = submitted;
      kept = drafts-kept terms j (standing_in st j).drafts lots drafts;
      kept_last = drafts-kept terms j (standing_in st j).submitted lots submitted;
      points = drafts-points terms j (standing_in st j).drafts drafts;
      valid = subst (λ (t : Standing). list_fault (final_cap terms) terms.points t.rounds t.submitted ≡ None) (sym is) (IsSound-standing terms j log).valid;
      some = rounds;
      eligible = λ over. sym (first-eligibility j st.rounds (rounds over))
          ∙ subst (λ (t : Standing). 1 ≤ length t.rounds → (caps.round_at t.rounds 1).eligibility ≡ (entrant terms j).eligibility) (sym is)
          (rounds-first terms log j) (omega (arith, count, rounds over));
    }

-- each bidder of the award is known to a desk that stands for a log
pub known-reached : (desk : DeskState) (j : ℕ) → sum desk.terms.supply ≤ 40 → IsReached desk → 1 ≤ j → j ≤ length desk.terms.bidders → IsKnown desk.terms desk j
known-reached desk j lots reached low high =
    subst (λ (st : DeskState). IsKnown desk.terms st j) (sym reached.stands) (known-of desk.terms reached.log j lots reached.categories low high)
