-- The whole log of a made auction: answered, complete, and few winners.
use Rattle.std.proofs.Common.{◌≡◌, ℕ, suc, ◌-◌, ◌<◌, true, [], ◌∷◌, ◌++◌, reverse, get_or, refl, sym, ◌∙◌, ap, subst, inl, inr, arith}
use Rattle.std.specs.Prelude.{flat_map}
use Rattle.std.specs.List.{AllByRecursion}
use Rattle.std.proofs.lemmas.Bool.{cases_lt}
use Rattle.std.proofs.lemmas.List.{get_or_past, get_or-replicate}
use Rattle.auction_rules.specs.declared.Event.TheVariants.{Close}
use Rattle.auction_rules.specs.declared.Stage.TheVariants.{Closed}
use Rattle.auction_rules.specs.Rounds.{listing, prices_after}
use Rattle.auction_rules.specs.Replies.{is_closed}
use Rattle.auction_rules.specs.BookOfLog.{is_complete}
use Rattle.auction_rules.specs.State.{DeskState, state_of}
use Rattle.auction_rules.proofs.Telling.{stage-state_of}
use Rattle.big_auction.specs.Answered.{AreAnsweredOk}
use Rattle.big_auction.specs.Draws.{advanced, first_state}
use Rattle.big_auction.specs.MadeAward.{made_terms}
use Rattle.big_auction.specs.MadeLog.{package_of, final_package_of, held_by, final_prices, draws_before, lines_of, clock_lines, made_log}
use Rattle.big_auction.proofs.ClockRounds.{no_lists, posted, rounds_to, sealed_state}
use Rattle.big_auction.proofs.Forward.{after, Goes, goes-on, goes-one, Stands, stands-all}
use Rattle.big_auction.proofs.MadeClock.{goes-flat, starts, last_eligibility, last_held, clock-goes, known, bidding}
use Rattle.big_auction.proofs.Offers.{part-goes}
use Rattle.big_auction.proofs.SealedRound.{HasLot, Between}

-- the state after the log
pub record IsEnd (number : ℕ) (s : DeskState) : Type 0 where
  pub terms : s.terms ≡ made_terms
  pub closed : s.stage ≡ Closed
  pub rounds : s.rounds ≡ rounds_to (held_by number) 10
  pub lots : (j : ℕ) → AllByRecursion HasLot (get_or s.submitted j [])

abbrev Parts : ℕ → ℕ → DeskState → Type 0
Parts number k s = Between (rounds_to (held_by number) 10) (prices_after made_terms (held_by number) 9) (last_eligibility number) (last_held number) k s

no-lists : (j : ℕ) → get_or no_lists j [] ≡ []
no-lists j = elim (cases_lt j 12) [ inl low ↦ get_or-replicate 12 j [] [] low | inr high ↦ get_or_past no_lists j [] high ]

none-yet : (number : ℕ) → Parts number 0 (sealed_state (rounds_to (held_by number) 10) (prices_after made_terms (held_by number) 9) (last_eligibility number)
    (last_held number) no_lists no_lists)
none-yet number = record {
  drafts = no_lists;
  submitted = no_lists;
  is = refl;
  long = refl;
  fresh = λ j low. no-lists j;
  lots = λ j. subst (AllByRecursion HasLot) (sym (no-lists j)) tt;
  long_submitted = refl;
  lots_submitted = λ j. subst (AllByRecursion HasLot) (sym (no-lists j)) tt;
}

lines-go : (number k : ℕ) (s : DeskState) → k < 12 → Parts number k s → Goes s (lines_of number (suc k)) (Parts number (suc k))
unfolding lines_of
lines-go number k s low parts =
    let e : suc k - 1 ≡ k = omega arith in
    part-goes (rounds_to (held_by number) 10) (prices_after made_terms (held_by number) 9) (last_eligibility number) (last_held number)
    (advanced (first_state number) (draws_before (suc k))) (final_prices number) (package_of number (suc k)) (final_package_of number (suc k)) (suc k) s
    (known (suc k) (omega arith) (omega arith)) (bidding number (suc k) (omega arith) (omega arith)) (subst (λ (i : ℕ). Parts number i s) (sym e) parts)

end-goes : (number : ℕ) (s : DeskState) → Parts number 12 s → Goes s (Close ∷ []) (IsEnd number)
end-goes number s parts =
    let st : DeskState = sealed_state (rounds_to (held_by number) 10) (prices_after made_terms (held_by number) 9) (last_eligibility number)
    (last_held number) parts.drafts parts.submitted in
    subst (λ (s : DeskState). Goes s (Close ∷ []) (IsEnd number)) (sym parts.is)
    (goes-one st Close (IsEnd number) refl (record { terms = refl; closed = refl; rounds = refl; lots = parts.lots_submitted }))

-- from the beginning on all lines have the reply Ok
pub log-goes : (number : ℕ) → Goes (state_of made_terms []) (made_log number) (IsEnd number)
unfolding made_log
log-goes number =
    subst (λ (s : DeskState). Goes s (made_log number) (IsEnd number)) (sym (starts number))
    (goes-on (posted (held_by number) 0) (clock_lines number) (flat_map (lines_of number) (listing (λ k. k) 12) ++ Close ∷ [])
    (λ s. s ≡ sealed_state (rounds_to (held_by number) 10) (prices_after made_terms (held_by number) 9) (last_eligibility number)
    (last_held number) no_lists no_lists) (IsEnd number)
    (clock-goes number)
    (λ s is. subst (λ (s : DeskState). Goes s (flat_map (lines_of number) (listing (λ k. k) 12) ++ Close ∷ []) (IsEnd number)) (sym is)
    (goes-on _ (flat_map (lines_of number) (listing (λ k. k) 12)) (Close ∷ []) (Parts number 12) (IsEnd number)
    (goes-flat (lines_of number) 12 _ (Parts number) (none-yet number) (λ k s low parts. lines-go number k s low parts))
    (end-goes number))))

abbrev pub end_state : ℕ → DeskState
end_state number = after (state_of made_terms []) (made_log number)

log-stands : (number : ℕ) → Stands made_terms (reverse (made_log number)) (end_state number)
log-stands number = stands-all made_terms (made_log number) (IsEnd number) (log-goes number)

-- all lines of the made log have the reply Ok
pub log-answered : (number : ℕ) → AreAnsweredOk made_terms (reverse (made_log number))
log-answered number = (log-stands number).answered

-- the made log is complete
pub log-complete : (number : ℕ) → is_complete made_terms (reverse (made_log number)) ≡ true
log-complete number =
    ap is_closed (sym (stage-state_of made_terms (reverse (made_log number))))
    ∙ ap (λ (s : DeskState). is_closed s.stage) (log-stands number).state ∙ ap is_closed (log-goes number).to.closed

-- its state is the one that its lines lead to, taken one by one
pub log-state : (number : ℕ) → state_of made_terms (reverse (made_log number)) ≡ end_state number
log-state number = (log-stands number).state

-- in that state the auction is closed after ten rounds, and each submitted bid has a lot of the first category
pub end_of_log : (number : ℕ) → IsEnd number (end_state number)
end_of_log number = (log-goes number).to
