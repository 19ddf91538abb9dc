-- What an admitted close changes of the state.
use Rattle.std.proofs.Common.{List, None, Option, Some, [], ap, arith, false, inl, inr, length, map, refl, subst, suc, sym, true, zero, ℕ, ◌++◌, ◌-◌}
use Rattle.std.proofs.Common.{◌∙◌, ◌∷◌, ◌≡◌, ◌≤◌}
use Rattle.std.specs.Prelude.{nat_eq, slice_index_or}
use Rattle.std.proofs.lemmas.Bool.{cases_Bool, ne_eqb, eq-eqb, cond-true, cond-false}
use Rattle.std.proofs.lemmas.List.{map-append}
use Rattle.auction_rules.specs.declared.Event.{Event}
use Rattle.auction_rules.specs.declared.Event.TheVariants.{Close}
use Rattle.auction_model.specs.Book.{BookBid}
use Rattle.auction_model.specs.Package.{cost_of, is_within}
use Rattle.auction_rules.specs.Terms.{Terms, no_lots}
use Rattle.auction_rules.specs.Rounds.{sum_of, demand, raised_prices, prices_after, eligibility_after, final_round, stage_by, round_by, closed_by, listing}
use Rattle.auction_rules.specs.Lines.{closes, held_in, draft_list, submitted_list}
use Rattle.auction_rules.specs.State.{DeskState, round_of, state_by, state_after, asked, next_round, clock_stopped, closed_state}
use Rattle.auction_rules.proofs.Held.{held_in-later}
use Rattle.auction_rules.proofs.Drafts.{draft_list-other}
use Rattle.auction_rules.proofs.Standings.{IsFinal, stopped, IsFinal-final_round, held_in-close}
use Rattle.auction_rules.proofs.States.{length-listing, get_or-listing, listing-same, state-parts}

-- a sum over bidders of lots that are the same for each
pub sum_of-within : (none : List ℕ) (f g : ℕ → List ℕ) (n : ℕ) → ((j : ℕ) → 1 ≤ j → j ≤ n → f j ≡ g j) → sum_of none f n ≡ sum_of none g n
sum_of-within none f g zero same = refl
sum_of-within none f g (suc n) same = rw (sum_of-within none f g n (λ j low high. same j low (omega arith)), same (suc n) (omega arith) (omega arith)) refl

-- what is asked for together of packages listed for bidders 1 to n is the sum of these packages
pub asked-listing : (terms : Terms) (f : ℕ → List ℕ) (n : ℕ) → asked terms (listing f n) ≡ sum_of (no_lots terms) f n
asked-listing terms f n =
    ap (λ (m : ℕ). sum_of (no_lots terms) (λ j. slice_index_or (listing f n) (j - 1) []) m) (length-listing f n)
    ∙ sum_of-within (no_lots terms) (λ j. slice_index_or (listing f n) (j - 1) []) f n
    (λ j low high. let e : suc (j - 1) ≡ j = omega arith in get_or-listing f n (j - 1) [] (omega arith) ∙ ap f e)

map-listing : {A B : Type 0} (h : A → B) (f : ℕ → A) (n : ℕ) → map h (listing f n) ≡ listing (λ j. h (f j)) n
map-listing h f zero = refl
map-listing h f (suc n) = map-append h (listing f n) (f (suc n) ∷ []) ∙ ap (λ (xs : List _). xs ++ h (f (suc n)) ∷ []) (map-listing h f n)

-- the state by a final round that is given
abbrev pub state_at : Terms → (ℕ → ℕ → List ℕ) → ℕ → Option ℕ → (ℕ → List BookBid) → (ℕ → List BookBid) → DeskState
state_at terms held n final drafts submitted = record {
  terms = terms;
  stage = stage_by n final;
  rounds = listing (round_of terms held) (closed_by n final);
  prices = prices_after terms held (round_by n final - 1);
  eligibility = listing (λ j. eligibility_after terms held j (round_by n final - 1)) (length terms.bidders);
  held = listing (held (round_by n final)) (length terms.bidders);
  drafts = listing drafts (length terms.bidders);
  submitted = listing submitted (length terms.bidders);
}

abbrev ClosesTo : Terms → (ℕ → ℕ → List ℕ) → ℕ → (ℕ → List BookBid) → (ℕ → List BookBid) → Option ℕ → Option ℕ → Type 0
ClosesTo terms held n drafts submitted final next =
    state_at terms held (suc n) next drafts submitted ≡ closed_state (stage_by n final) (state_at terms held n final drafts submitted)

stops : (terms : Terms) (held : ℕ → ℕ → List ℕ) (n : ℕ) (drafts submitted : ℕ → List BookBid) → is_within (demand terms held (suc n)) terms.supply ≡ true
    → ClosesTo terms held n drafts submitted None (Some (suc n))
stops terms held n drafts submitted within =
    let now : is_within (asked terms (listing (held (suc n)) (length terms.bidders))) terms.supply ≡ true =
    ap (λ (d : List ℕ). is_within d terms.supply) (asked-listing terms (held (suc n)) (length terms.bidders)) ∙ within in
    state-parts terms _ _ _ _ _ _ _ _ _ _ _ _ _ _ (rw (eq-eqb (suc n) (suc n) refl) refl) refl refl refl refl refl refl
    ∙ sym (cond-true _ (clock_stopped (state_at terms held n None drafts submitted)) (next_round (state_at terms held n None drafts submitted)) now)

goes_on : (terms : Terms) (held : ℕ → ℕ → List ℕ) (n : ℕ) (drafts submitted : ℕ → List BookBid) → is_within (demand terms held (suc n)) terms.supply ≡ false
    → ((j : ℕ) → held (suc (suc n)) j ≡ no_lots terms) → ClosesTo terms held n drafts submitted None None
goes_on terms held n drafts submitted over later =
    let bidders : ℕ = length terms.bidders in
    let sum : asked terms (listing (held (suc n)) bidders) ≡ demand terms held (suc n) = asked-listing terms (held (suc n)) bidders in
    let now : is_within (asked terms (listing (held (suc n)) bidders)) terms.supply ≡ false = ap (λ (d : List ℕ). is_within d terms.supply) sum ∙ over in
    let e : suc (suc n) - 1 ≡ suc n = omega arith in
    let f : suc n - 1 ≡ n = omega arith in
    state-parts terms _ _ _ _ _ _ _ _ _ _ _ _ _ _ refl refl
    (ap (prices_after terms held) e
    ∙ ap (λ (d : List ℕ). raised_prices terms.tick terms.thresholds (prices_after terms held n) d terms.supply) (sym sum)
    ∙ ap (λ (m : ℕ). raised_prices terms.tick terms.thresholds (prices_after terms held m) (asked terms (listing (held (suc n)) bidders)) terms.supply) (sym f))
    (ap (λ (m : ℕ). listing (λ j. eligibility_after terms held j m) bidders) e ∙ sym (map-listing (cost_of terms.points) (held (suc n)) bidders))
    (listing-same (held (suc (suc n))) (λ j. no_lots terms) bidders (λ j low high. later j) ∙ sym (map-listing (λ lots. no_lots terms) (held (suc n)) bidders))
    refl refl
    ∙ sym (cond-false _ (clock_stopped (state_at terms held n None drafts submitted)) (next_round (state_at terms held n None drafts submitted)) now)

has_stopped : (terms : Terms) (held : ℕ → ℕ → List ℕ) (n : ℕ) (drafts submitted : ℕ → List BookBid) (final : ℕ) → final ≤ n
    → ClosesTo terms held n drafts submitted (Some final) (Some final)
has_stopped terms held n drafts submitted final few =
    let past : nat_eq (suc n) final ≡ false = ne_eqb (suc n) final (λ e. absurd (omega arith)) in
    elim (cases_Bool (nat_eq n final)) [
      | inl last ↦ rw (past, last) refl
      | inr other ↦ rw (past, other) refl
    ]

closed-state : (terms : Terms) (held : ℕ → ℕ → List ℕ) (n : ℕ) (drafts submitted : ℕ → List BookBid) (final : Option ℕ) → final_round terms held n ≡ final
    → IsFinal n final
    → ((j : ℕ) → held (suc (suc n)) j ≡ no_lots terms) → ClosesTo terms held n drafts submitted final (final_round terms held (suc n))
closed-state terms held n drafts submitted None h f later =
    elim (cases_Bool (is_within (demand terms held (suc n)) terms.supply)) [
      | inl within ↦ let now : final_round terms held (suc n) ≡ Some (suc n) = rw (h, within) refl in
          subst (ClosesTo terms held n drafts submitted None) (sym now) (stops terms held n drafts submitted within)
      | inr over ↦ let now : final_round terms held (suc n) ≡ None = rw (h, over) refl in
          subst (ClosesTo terms held n drafts submitted None) (sym now) (goes_on terms held n drafts submitted over later)
    ]
closed-state terms held n drafts submitted (Some final) h (stopped some few) later =
    let now : final_round terms held (suc n) ≡ Some final = rw h refl in
    subst (ClosesTo terms held n drafts submitted (Some final)) (sym now) (has_stopped terms held n drafts submitted final few)

-- an admitted close
pub state_after-close : (terms : Terms) (lines : List Event) → state_after terms (Close ∷ lines) ≡ closed_state (state_after terms lines).stage
    (state_after terms lines)
state_after-close terms lines =
    let n : ℕ = closes lines in
    let bidders : ℕ = length terms.bidders in
    let final : Option ℕ = final_round terms (held_in terms lines) n in
    ap (λ (held : ℕ → ℕ → List ℕ). state_by terms held (suc n) (λ j. draft_list j (Close ∷ lines)) (λ j. submitted_list j (Close ∷ lines)))
    (held_in-close terms lines)
    ∙ state-parts terms _ _ _ _ _ _ _ _ _ _ _ _ _ _ refl refl refl refl refl
    (listing-same (λ j. draft_list j (Close ∷ lines)) (λ j. draft_list j lines) bidders (λ j low high. draft_list-other j Close lines refl)) refl
    ∙ closed-state terms (held_in terms lines) n (λ j. draft_list j lines) (λ j. submitted_list j lines) final refl
    (IsFinal-final_round terms (held_in terms lines) n final refl) (λ j. held_in-later terms (suc (suc n)) j lines (omega arith))
