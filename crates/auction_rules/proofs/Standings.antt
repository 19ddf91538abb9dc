-- What one more admitted line changes of a bidder's standing.
use Rattle.std.proofs.Common.{◌≡◌, ℕ, suc, ◌-◌, ◌<◌, ◌≤◌, true, false, List, [], ◌∷◌, ◌++◌, Option, Some, None, refl, sym, ◌∙◌, ap, subst, inl, inr, arith}
use Rattle.std.specs.Prelude.{if◌then◌else◌, unwrap_or, nat_eq}
use Rattle.std.proofs.lemmas.Bool.{cases_Bool, ne_eqb, eq-eqb}
use mathlib.Core.Path.{fun_ext}
use Rattle.auction_rules.specs.declared.Event.{Event}
use Rattle.auction_rules.specs.declared.Event.TheVariants.{Bid, Draft, Drop, Submit, Close}
use Rattle.auction_rules.specs.declared.Stage.{Stage}
use Rattle.auction_rules.specs.declared.Stage.TheVariants.{Clock, Sealed, Closed}
use Rattle.auction_model.specs.Package.{cost_of, is_within}
use Rattle.auction_rules.specs.Terms.{Terms, no_lots}
use Rattle.auction_rules.specs.Rounds.{OwnRound, demand, prices_after, eligibility_after, final_round, own_rounds, stage_by, round_by, closed_by}
use Rattle.auction_rules.specs.Lines.{is_close, bid_by, is_submit, closes, held_in, draft_list, submitted_list, drafts_after}
use Rattle.auction_rules.specs.Replies.{Standing, is_of, is_clock, standing, standing_by}
use Rattle.auction_rules.specs.View.{posted}
use Rattle.auction_rules.proofs.Held.{closes-line, held_in-elsewhere, held_in-no_bid, held_in-bid, held_in-later}
use Rattle.auction_model.specs.Book.{BookBid}
use Rattle.auction_rules.proofs.Drafts.{draft_list-other, draft_list-own, submitted_list-other}
use Rattle.auction_rules.proofs.Agree.{Agree, Agree-fewer, prices_after-same, eligibility_after-same, final_round-same, own_rounds-same, final_round-bounds}

-- the standing by a final round that is given
abbrev pub standing_at : Terms → (ℕ → ℕ → List ℕ) → ℕ → Option ℕ → ℕ → List BookBid → List BookBid → Standing
standing_at terms held n final j drafts submitted = record {
  stage = stage_by n final;
  rounds = own_rounds terms held j (closed_by n final);
  prices = prices_after terms held (round_by n final - 1);
  eligibility = eligibility_after terms held j (round_by n final - 1);
  held = held (round_by n final) j;
  drafts = drafts;
  submitted = submitted;
}

-- the final round is none, or a closed one
pub data IsFinal (n : ℕ) : Option ℕ → Type 0 where
  running : IsFinal n None
  stopped : {final : ℕ} → 0 < final → final ≤ n → IsFinal n (Some final)

-- after n closes there is no final round, or it is one of the rounds 1 to n
pub IsFinal-final_round : (terms : Terms) (held : ℕ → ℕ → List ℕ) (n : ℕ) (final : Option ℕ) → final_round terms held n ≡ final → IsFinal n final
IsFinal-final_round terms held n None h = running
IsFinal-final_round terms held n (Some final) h = let b : (0 < final) × (final ≤ n) = final_round-bounds terms n held final h in stopped b.0 b.1

-- a standing depends on the rounds up to n, and on what the bidder holds in the posted round
pub standing_at-same : (terms : Terms) (held other : ℕ → ℕ → List ℕ) (n : ℕ) (final : Option ℕ) (j : ℕ) (drafts submitted : List BookBid) → IsFinal n final
    → Agree n held other
    → held (round_by n final) j ≡ other (round_by n final) j → standing_at terms held n final j drafts submitted ≡ standing_at terms other n final j drafts
    submitted
standing_at-same terms held other n None j drafts submitted f agree here =
    let now : Agree (suc n - 1) held other = Agree-fewer n (suc n - 1) held other agree (omega arith) in
    rw (
      own_rounds-same terms j n held other agree,
      prices_after-same terms (suc n - 1) held other now,
      eligibility_after-same terms j (suc n - 1) held other now,
      here,
    ) refl
standing_at-same terms held other n (Some final) j drafts submitted (stopped some few) agree here =
    let then_ : Agree final held other = Agree-fewer n final held other agree few in
    let now : Agree (final - 1) held other = Agree-fewer n (final - 1) held other agree (omega arith) in
    rw (
      own_rounds-same terms j final held other then_,
      prices_after-same terms (final - 1) held other now,
      eligibility_after-same terms j (final - 1) held other now,
      here,
    ) refl

-- a line that is no close leaves the rounds up to now
pub Agree-line : (terms : Terms) (e : Event) (lines : List Event) → Agree (closes lines) (held_in terms (e ∷ lines)) (held_in terms lines)
Agree-line terms e lines = record { same = λ r j few. held_in-elsewhere terms r j e lines (λ here. absurd (omega arith)) }

-- what an admitted line of the bidder's own changes of its standing
abbrev pub after_own : ℕ → Standing → Event → Standing
after_own j s e = record {
  stage = s.stage;
  rounds = s.rounds;
  prices = s.prices;
  eligibility = s.eligibility;
  held = if is_clock s.stage then unwrap_or (bid_by j e) s.held else s.held;
  drafts = drafts_after e s.drafts;
  submitted = if is_submit j e then s.drafts else s.submitted;
}

-- lines of others
pub bid_by-other : (j : ℕ) (e : Event) → is_close e ≡ false → is_of j e ≡ false → bid_by j e ≡ None
bid_by-other j (Bid k lots) c h = rw h refl
bid_by-other j (Draft k lots amount) c h = refl
bid_by-other j (Drop k lots) c h = refl
bid_by-other j (Submit k) c h = refl
bid_by-other j Close c h = refl

-- the standing after a line that is no close, by the rounds before it
pub standing-line : (terms : Terms) (j : ℕ) (e : Event) (lines : List Event) → is_close e ≡ false
    → standing terms (e ∷ lines) j ≡ standing_at terms (held_in terms (e ∷ lines)) (closes lines) (final_round terms (held_in terms lines) (closes lines)) j
    (draft_list j (e ∷ lines)) (submitted_list j (e ∷ lines))
standing-line terms j e lines c =
    ap (λ (n : ℕ). standing_at terms (held_in terms (e ∷ lines)) n (final_round terms (held_in terms (e ∷ lines)) n) j (draft_list j (e ∷ lines))
    (submitted_list j (e ∷ lines))) (closes-line e lines c)
    ∙ ap (λ (final : Option ℕ). standing_at terms (held_in terms (e ∷ lines)) (closes lines) final j (draft_list j (e ∷ lines)) (submitted_list j (e ∷ lines)))
    (final_round-same terms (closes lines) (held_in terms (e ∷ lines)) (held_in terms lines) (Agree-line terms e lines))

-- the lines of others change nothing
pub standing-other :
    (terms : Terms) (j : ℕ) (e : Event) (lines : List Event) → is_close e ≡ false → is_of j e ≡ false
    → standing terms (e ∷ lines) j ≡ standing terms lines j
standing-other terms j e lines c h =
    let final : Option ℕ = final_round terms (held_in terms lines) (closes lines) in
    let f : IsFinal (closes lines) final = IsFinal-final_round terms (held_in terms lines) (closes lines) final refl in
    standing-line terms j e lines c
    ∙ ap (λ (drafts : List BookBid). standing_at terms (held_in terms (e ∷ lines)) (closes lines) final j drafts (submitted_list j (e ∷ lines)))
    (draft_list-other j e lines h)
    ∙ ap (λ (submitted : List BookBid). standing_at terms (held_in terms (e ∷ lines)) (closes lines) final j (draft_list j lines) submitted)
    (submitted_list-other j e lines h)
    ∙ standing_at-same terms (held_in terms (e ∷ lines)) (held_in terms lines) (closes lines) final j (draft_list j lines) (submitted_list j lines) f
    (Agree-line terms e lines)
    (held_in-no_bid terms (round_by (closes lines) final) j e lines (bid_by-other j e c h))

-- what the bidder holds in the posted round after a line of its own
held-own : (terms : Terms) (j : ℕ) (e : Event) (lines : List Event) (final : Option ℕ) (word : Option (List ℕ)) → IsFinal (closes lines) final
    → bid_by j e ≡ word
    → held_in terms (e ∷ lines) (round_by (closes lines) final) j
    ≡ (if is_clock (stage_by (closes lines) final) then unwrap_or word (held_in terms lines (round_by (closes lines) final) j) else held_in terms lines
    (round_by (closes lines) final) j)
held-own terms j e lines None None f w = held_in-no_bid terms (suc (closes lines)) j e lines w
held-own terms j e lines None (Some lots) f w = held_in-bid terms j e lines lots w
held-own terms j e lines (Some final) word (stopped some few) w =
    elim (cases_Bool (nat_eq (closes lines) final)) [
      | inl last ↦ rw last (held_in-elsewhere terms final j e lines (λ here. absurd (omega arith)))
      | inr past ↦ rw past (held_in-elsewhere terms final j e lines (λ here. absurd (omega arith)))
    ]

-- a standing with another package in the posted round, and other lines
standing_at-held : (terms : Terms) (held other : ℕ → ℕ → List ℕ) (n : ℕ) (final : Option ℕ) (j : ℕ) (drafts submitted : List BookBid) (lots : List ℕ)
    → IsFinal n final → Agree n held other
    → held (round_by n final) j ≡ lots
    → standing_at terms held n final j drafts submitted ≡ record (standing_at terms other n final j drafts submitted) { held = lots }
standing_at-held terms held other n None j drafts submitted lots f agree here =
    let now : Agree (suc n - 1) held other = Agree-fewer n (suc n - 1) held other agree (omega arith) in
    rw (
      own_rounds-same terms j n held other agree,
      prices_after-same terms (suc n - 1) held other now,
      eligibility_after-same terms j (suc n - 1) held other now,
      here,
    ) refl
standing_at-held terms held other n (Some final) j drafts submitted lots (stopped some few) agree here =
    let then_ : Agree final held other = Agree-fewer n final held other agree few in
    let now : Agree (final - 1) held other = Agree-fewer n (final - 1) held other agree (omega arith) in
    rw (
      own_rounds-same terms j final held other then_,
      prices_after-same terms (final - 1) held other now,
      eligibility_after-same terms j (final - 1) held other now,
      here,
    ) refl

-- a line of the bidder's own
pub standing-own : (terms : Terms) (j : ℕ) (e : Event) (lines : List Event) → is_close e ≡ false → is_of j e ≡ true
    → standing terms (e ∷ lines) j ≡ after_own j (standing terms lines j) e
standing-own terms j e lines c h =
    let final : Option ℕ = final_round terms (held_in terms lines) (closes lines) in
    let f : IsFinal (closes lines) final = IsFinal-final_round terms (held_in terms lines) (closes lines) final refl in
    standing-line terms j e lines c
    ∙ ap (λ (drafts : List BookBid). standing_at terms (held_in terms (e ∷ lines)) (closes lines) final j drafts (submitted_list j (e ∷ lines)))
    (draft_list-own j e lines h)
    ∙ standing_at-held terms (held_in terms (e ∷ lines)) (held_in terms lines) (closes lines) final j (drafts_after e (draft_list j lines))
    (submitted_list j (e ∷ lines)) _ f (Agree-line terms e lines)
    (held-own terms j e lines final (bid_by j e) f refl)

-- a close changes nothing that is held
pub held_in-close : (terms : Terms) (lines : List Event) → held_in terms (Close ∷ lines) ≡ held_in terms lines
held_in-close terms lines = fun_ext (λ r. fun_ext (λ j. held_in-no_bid terms r j Close lines refl))

-- what an admitted close changes of a standing: with the prices of a next round, and without
abbrev pub own_now : Standing → OwnRound
own_now s = record { prices = s.prices; eligibility = s.eligibility; held = s.held }

abbrev pub stage_stopped : Stage → Stage
stage_stopped Clock = Sealed
stage_stopped Sealed = Closed
stage_stopped Closed = Closed

abbrev pub after_close : Terms → Standing → Option (List ℕ) → Standing
after_close terms s (Some prices) = record {
  stage = Clock;
  rounds = s.rounds ++ own_now s ∷ [];
  prices = prices;
  eligibility = cost_of terms.points s.held;
  held = no_lots terms;
  drafts = s.drafts;
  submitted = s.submitted;
}
after_close terms s None = record {
  stage = stage_stopped s.stage;
  rounds = if is_clock s.stage then s.rounds ++ own_now s ∷ [] else s.rounds;
  prices = s.prices;
  eligibility = s.eligibility;
  held = s.held;
  drafts = s.drafts;
  submitted = s.submitted;
}

-- the standing after an admitted close, by the final rounds before it and after it
abbrev ClosesTo : Terms → (ℕ → ℕ → List ℕ) → ℕ → ℕ → List BookBid → List BookBid → Option ℕ → Option ℕ → Type 0
ClosesTo terms held n j drafts submitted final next = standing_at terms held (suc n) next j drafts submitted
    ≡ after_close terms (standing_at terms held n final j drafts submitted) (if is_clock (stage_by (suc n) next) then Some
    (prices_after terms held (suc n)) else None)

stops : (terms : Terms) (held : ℕ → ℕ → List ℕ) (n j : ℕ) (drafts submitted : List BookBid) → ClosesTo terms held n j drafts submitted None (Some (suc n))
stops terms held n j drafts submitted = rw (eq-eqb (suc n) (suc n) refl) refl

goes_on : (terms : Terms) (held : ℕ → ℕ → List ℕ) (n j : ℕ) (drafts submitted : List BookBid) → held (suc (suc n)) j ≡ no_lots terms
    → ClosesTo terms held n j drafts submitted None None
goes_on terms held n j drafts submitted later = let e : suc (suc n) - 1 ≡ suc n = omega arith in rw (e, later) refl

has_stopped : (terms : Terms) (held : ℕ → ℕ → List ℕ) (n j : ℕ) (drafts submitted : List BookBid) (final : ℕ) → final ≤ n
    → ClosesTo terms held n j drafts submitted (Some final) (Some final)
has_stopped terms held n j drafts submitted final few =
    let past : nat_eq (suc n) final ≡ false = ne_eqb (suc n) final (λ e. absurd (omega arith)) in
    elim (cases_Bool (nat_eq n final)) [
      | inl last ↦ rw (past, last) refl
      | inr other ↦ rw (past, other) refl
    ]

closed-standing : (terms : Terms) (held : ℕ → ℕ → List ℕ) (n j : ℕ) (drafts submitted : List BookBid) (final : Option ℕ) → final_round terms held n ≡ final
    → IsFinal n final
    → held (suc (suc n)) j ≡ no_lots terms → ClosesTo terms held n j drafts submitted final (final_round terms held (suc n))
closed-standing terms held n j drafts submitted None h f later =
    elim (cases_Bool (is_within (demand terms held (suc n)) terms.supply)) [
      | inl within ↦ let now : final_round terms held (suc n) ≡ Some (suc n) = rw (h, within) refl in
          subst (ClosesTo terms held n j drafts submitted None) (sym now) (stops terms held n j drafts submitted)
      | inr over ↦ let now : final_round terms held (suc n) ≡ None = rw (h, over) refl in subst (ClosesTo terms held n j drafts submitted None) (sym now)
          (goes_on terms held n j drafts submitted later)
    ]
closed-standing terms held n j drafts submitted (Some final) h (stopped some few) later =
    let now : final_round terms held (suc n) ≡ Some final = rw h refl in subst (ClosesTo terms held n j drafts submitted (Some final)) (sym now)
    (has_stopped terms held n j drafts submitted final few)

-- one more close makes of a bidder's standing what an admitted close with the prices posted makes of it
pub standing-close : (terms : Terms) (j : ℕ) (lines : List Event) → standing terms (Close ∷ lines) j ≡ after_close terms (standing terms lines j)
    (posted terms lines)
standing-close terms j lines =
    let final : Option ℕ = final_round terms (held_in terms lines) (closes lines) in
    ap (λ (held : ℕ → ℕ → List ℕ). standing_by terms held (suc (closes lines)) j (draft_list j (Close ∷ lines)) (submitted_list j (Close ∷ lines)))
    (held_in-close terms lines)
    ∙ ap (λ (drafts : List BookBid). standing_by terms (held_in terms lines) (suc (closes lines)) j drafts (submitted_list j lines))
    (draft_list-other j Close lines refl)
    ∙ closed-standing terms (held_in terms lines) (closes lines) j (draft_list j lines) (submitted_list j lines) final refl
    (IsFinal-final_round terms (held_in terms lines) (closes lines) final refl) (held_in-later terms (suc (suc (closes lines))) j lines (omega arith))
