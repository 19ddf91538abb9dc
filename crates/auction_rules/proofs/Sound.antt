-- What is true for every bidder's standing after a log: the rounds are rising and eligible, and the submitted list is valid.
use Rattle.std.proofs.Common.{Bool, List, None, Option, Some, [], ap, arith, false, inl, inr, length, map, not, refl, subst, suc, sym, true, zero, ℕ}
use Rattle.std.proofs.Common.{◌*◌, ◌++◌, ◌-◌, ◌∙◌, ◌∷◌, ◌≡◌, ◌≤◌}
use Rattle.std.specs.Prelude.{if◌then◌else◌, ◌&&◌, ◌==◌, nat_lt, nat_le, nat_eq, unwrap_or}
use Rattle.std.specs.Option.{option_or}
use Rattle.std.proofs.lemmas.Bool.{cases_Bool, ltb-false}
use Rattle.std.proofs.Math.Nat.{mul-le-mul_left}
use Rattle.auction_model.specs.Package.{cost_of, is_within}
use Rattle.auction_model.specs.PackageTests.{first_over}
use Rattle.auction_rules.specs.declared.Event.{Event}
use Rattle.auction_rules.specs.declared.Stage.{Stage}
use Rattle.auction_rules.specs.declared.Stage.TheVariants.{Clock, Sealed, Closed}
use Rattle.auction_rules.specs.Terms.{Terms, final_cap, broken_cap}
use Rattle.auction_rules.specs.Step.{stepped}
use Rattle.auction_rules.specs.Rounds.{OwnRound, closed_after, demand, final_round, own_round, own_rounds, prices_after, raised_prices, stage_after}
use Rattle.auction_rules.specs.Rounds.{stage_by}
use Rattle.auction_rules.specs.declared.Event.TheVariants.{Bid, Draft, Drop, Submit, Close}
use Rattle.auction_rules.specs.declared.Reply.TheVariants as reply
use Rattle.auction_rules.specs.Caps.{list_fault}
use Rattle.auction_rules.specs.Lines.{is_close, is_submit, closes, held_in}
use Rattle.auction_rules.specs.Replies.{Standing, admitted, cap_reply, first_reply, is_clock, is_ok_reply, is_sealed, own_reply, reply_after}
use Rattle.auction_rules.specs.Replies.{spectrum_reply, standing, supply_reply, when}
use Rattle.auction_rules.specs.View.{posted}
use Rattle.auction_rules.specs.BookOfLog.{bids_in_book}
use Rattle.auction_rules.proofs.Standings.{after_own, after_close, own_now, stage_stopped, standing-own, standing-other, standing-close}
use Rattle.auction_rules.proofs.Views.{a_close, an_own, another, cases_line, with_line-ok, with_line-refused, reply_after-own, is_of-parts}
use Rattle.auction_rules.proofs.BookCaps.{RisesTo, rises, RisesToEach, AreRising, AreEligible, list_fault-best_bids}
use Rattle.auction_rules.proofs.Stands.{same_either}

-- prices never fall
cost_of-raised_prices : (tick : ℕ) (thresholds : List (ℕ × ℕ)) (prices d supply lots : List ℕ) → cost_of prices lots ≤ cost_of
    (raised_prices tick thresholds prices d supply) lots
cost_of-raised_prices tick thresholds [] d supply lots = omega arith
cost_of-raised_prices tick thresholds (p ∷ prices) [] supply lots = omega arith
cost_of-raised_prices tick thresholds (p ∷ prices) (n ∷ d) [] lots = omega arith
cost_of-raised_prices tick thresholds (p ∷ prices) (n ∷ d) (s ∷ supply) [] = omega arith
cost_of-raised_prices tick thresholds (p ∷ prices) (n ∷ d) (s ∷ supply) (a ∷ lots) =
    elim (cases_Bool (nat_le n s)) [
      | inl within ↦ rw within (omega (arith, cost_of-raised_prices tick thresholds prices d supply lots))
      | inr over ↦
          let up : a * p ≤ a * stepped tick thresholds p (n - s) = mul-le-mul_left a (omega arith) in
          rw over (omega (arith, up, cost_of-raised_prices tick thresholds prices d supply lots))
    ]

-- after one more round the price of a package is at least what it was
pub prices_after-rises : (terms : Terms) (held : ℕ → ℕ → List ℕ) (n : ℕ) (lots : List ℕ) → cost_of (prices_after terms held n) lots ≤ cost_of
    (prices_after terms held (suc n)) lots
prices_after-rises terms held n lots = cost_of-raised_prices terms.tick terms.thresholds (prices_after terms held n)
    (demand terms held (suc n)) terms.supply lots

RisesToEach-append : (r : OwnRound) (rounds : List OwnRound) (q : OwnRound) → RisesToEach r rounds → RisesTo r q → RisesToEach r (rounds ++ q ∷ [])
RisesToEach-append r [] q each last = (last, tt)
RisesToEach-append r (s ∷ rounds) q each last = (each.0, RisesToEach-append r rounds q each.1 last)

-- each of the rounds rises to q
abbrev AllRiseTo : List OwnRound → OwnRound → Type 0
AllRiseTo [] q = Unit {0}
AllRiseTo (r ∷ rounds) q = RisesTo r q × AllRiseTo rounds q

AllRiseTo-append : (rounds : List OwnRound) (r q : OwnRound) → AllRiseTo rounds q → RisesTo r q → AllRiseTo (rounds ++ r ∷ []) q
AllRiseTo-append [] r q all last = (last, tt)
AllRiseTo-append (s ∷ rounds) r q all last = (all.0, AllRiseTo-append rounds r q all.1 last)

-- rising rounds stay rising with one more at the end to which each of them rises
pub AreRising-append : (rounds : List OwnRound) (q : OwnRound) → AreRising rounds → AllRiseTo rounds q → AreRising (rounds ++ q ∷ [])
AreRising-append [] q rising all = (tt, tt)
AreRising-append (r ∷ rounds) q rising all = (RisesToEach-append r rounds q rising.0 all.0, AreRising-append rounds q rising.1 all.1)

own_rounds-rise : (terms : Terms) (held : ℕ → ℕ → List ℕ) (j n : ℕ) (q : OwnRound)
    → ((lots : List ℕ) → cost_of (prices_after terms held n) lots ≤ cost_of q.prices lots) → AllRiseTo (own_rounds terms held j n) q
own_rounds-rise terms held j zero q up = tt
own_rounds-rise terms held j (suc n) q up =
    let e : suc n - 1 ≡ n = omega arith in
    let step : (lots : List ℕ) → cost_of (prices_after terms held n) lots ≤ cost_of q.prices lots = λ lots. omega
    (arith, prices_after-rises terms held n lots, up lots) in
    let last : (lots : List ℕ) → cost_of (prices_after terms held (suc n - 1)) lots ≤ cost_of q.prices lots = λ lots. rw e (step lots) in
    AllRiseTo-append (own_rounds terms held j n) (own_round terms held j (suc n)) q (own_rounds-rise terms held j n q step) (rises last)

-- the first n rounds of a bidder are rising, whatever is held
pub AreRising-own_rounds : (terms : Terms) (held : ℕ → ℕ → List ℕ) (j n : ℕ) → AreRising (own_rounds terms held j n)
AreRising-own_rounds terms held j zero = tt
AreRising-own_rounds terms held j (suc n) =
    let e : suc n - 1 ≡ n = omega arith in
    let last : (lots : List ℕ) → cost_of (prices_after terms held n) lots ≤ cost_of (prices_after terms held (suc n - 1)) lots = λ lots. rw e (omega arith) in
    AreRising-append (own_rounds terms held j n) (own_round terms held j (suc n)) (AreRising-own_rounds terms held j n)
    (own_rounds-rise terms held j n (own_round terms held j (suc n)) last)

-- rounds where the bidder is eligible for what it holds stay such with one more that is so
pub AreEligible-append : (points : List ℕ) (rounds : List OwnRound) (q : OwnRound) → AreEligible points rounds → cost_of points q.held ≤ q.eligibility
    → AreEligible points (rounds ++ q ∷ [])
AreEligible-append points [] q all last = (last, tt)
AreEligible-append points (r ∷ rounds) q all last = (all.0, AreEligible-append points rounds q all.1 last)

cost_of-zeros : (prices supply : List ℕ) → cost_of prices (map (λ n. 0) supply) ≡ 0
cost_of-zeros [] supply = refl
cost_of-zeros (p ∷ prices) [] = refl
cost_of-zeros (p ∷ prices) (s ∷ supply) = omega (arith, cost_of-zeros prices supply)

-- The bidder was eligible for what it held in each closed round and is for what it holds now, its submitted list is valid, and
-- in the clock it has none.
pub record IsSound (terms : Terms) (s : Standing) : Type 0 where
  pub eligible : AreEligible terms.points s.rounds
  pub now : cost_of terms.points s.held ≤ s.eligibility
  pub valid : list_fault (final_cap terms) terms.points s.rounds s.submitted ≡ None
  pub unsubmitted : is_clock s.stage ≡ true → s.submitted ≡ []

-- if the reply is Ok, no condition holds
pub bid-ok : (out strange : Bool) (over : Option ℕ) (rule : Option (ℕ × ℕ)) (short : Bool) (e : ℕ)
    → is_ok_reply (first_reply (when out reply.Stage ∷ when strange reply.Unknown ∷ supply_reply over ∷ spectrum_reply rule ∷ when short
    (reply.Points e) ∷ [])) ≡ true → (over ≡ None) × (short ≡ false)
bid-ok true strange over rule short e ok = cc
bid-ok false true over rule short e ok = cc
bid-ok false false (Some c) rule short e ok = cc
bid-ok false false None (Some r) short e ok = cc
bid-ok false false None None true e ok = cc
bid-ok false false None None false e ok = (refl, refl)

submit-ok : (out strange : Bool) (fault : Option (ℕ × ℕ))
    → is_ok_reply (first_reply (when out reply.Stage ∷ when strange reply.Unknown ∷ cap_reply fault ∷ [])) ≡ true → (out ≡ false) × (fault ≡ None)
submit-ok true strange fault ok = cc
submit-ok false true fault ok = cc
submit-ok false false (Some f) ok = cc
submit-ok false false None ok = (refl, refl)

sealed-no_clock : (stage : Stage) → not (is_sealed stage) ≡ false → is_clock stage ≡ true → ⊥
sealed-no_clock Clock h k = cc
sealed-no_clock Sealed h k = cc
sealed-no_clock Closed h k = cc

-- a stage that a close has stopped isn't the clock
pub stopped-no_clock : (stage : Stage) → is_clock (stage_stopped stage) ≡ true → ⊥
stopped-no_clock Clock h = cc
stopped-no_clock Sealed h = cc
stopped-no_clock Closed h = cc

held_bid : (b mine : Bool) (lots held : List ℕ) (points : List ℕ) (eligibility : ℕ) → cost_of points lots ≤ eligibility → cost_of points held ≤ eligibility
    → cost_of points (if b then unwrap_or (if mine then Some lots else None) held else held) ≤ eligibility
held_bid true true lots held points eligibility new old = new
held_bid true false lots held points eligibility new old = old
held_bid false mine lots held points eligibility new old = old

IsSound-own : (terms : Terms) (j : ℕ) (s : Standing) (e : Event) → is_ok_reply (own_reply terms j s e) ≡ true → is_close e ≡ false → IsSound terms s
    → IsSound terms (after_own j s e)
IsSound-own terms j s (Bid k lots) ok c sound =
    let within : cost_of terms.points lots ≤ s.eligibility = ltb-false s.eligibility (cost_of terms.points lots)
    (bid-ok (not (is_clock s.stage)) (not (nat_lt 0 j && nat_le j (length terms.bidders))) (first_over 1 lots terms.supply) (broken_cap terms j lots)
    (nat_lt s.eligibility (cost_of terms.points lots)) s.eligibility ok).1 in
    record {
      eligible = sound.eligible;
      now = held_bid (is_clock s.stage) (k == j) lots s.held terms.points s.eligibility within sound.now;
      valid =
          sound.valid;
      unsubmitted = sound.unsubmitted;
    }
IsSound-own terms j s (Draft k lots amount) ok c sound =
    record { eligible = sound.eligible; now = rw (same_either (is_clock s.stage) s.held) sound.now; valid = sound.valid; unsubmitted = sound.unsubmitted }
IsSound-own terms j s (Drop k lots) ok c sound =
    record { eligible = sound.eligible; now = rw (same_either (is_clock s.stage) s.held) sound.now; valid = sound.valid; unsubmitted = sound.unsubmitted }
IsSound-own terms j s (Submit k) ok c sound =
    let a : (not (is_sealed s.stage) ≡ false) × (list_fault (final_cap terms) terms.points s.rounds s.drafts ≡ None)
    = submit-ok (not (is_sealed s.stage)) (not (nat_lt 0 j && nat_le j (length terms.bidders))) (list_fault (final_cap terms) terms.points s.rounds s.drafts)
    ok in
    record {
      eligible = sound.eligible;
      now = rw (same_either (is_clock s.stage) s.held) sound.now;
      valid = elim (cases_Bool (is_submit j (Submit k))) [ inl mine ↦ rw mine a.1 | inr other ↦ rw other sound.valid ];
      unsubmitted = λ clock. absurd (sealed-no_clock s.stage a.0 clock);
    }
IsSound-own terms j s Close ok c sound = cc

IsSound-close : (terms : Terms) (s : Standing) (prices : Option (List ℕ)) → ((p : List ℕ) → prices ≡ Some p → is_clock s.stage ≡ true) → IsSound terms s
    → IsSound terms (after_close terms s prices)
IsSound-close terms s (Some p) posts sound = record {
  eligible = AreEligible-append terms.points s.rounds (own_now s) sound.eligible sound.now;
  now = omega (arith, cost_of-zeros terms.points terms.supply);
  valid = rw (sound.unsubmitted (posts p refl)) refl;
  unsubmitted = λ clock. sound.unsubmitted (posts p refl);
}
IsSound-close terms s None posts sound =
    elim (cases_Bool (is_clock s.stage)) [
      | inl clock ↦ record {
        eligible = rw clock (AreEligible-append terms.points s.rounds (own_now s) sound.eligible sound.now);
        now = sound.now;
        valid = rw (sound.unsubmitted clock) refl;
        unsubmitted = λ clock. absurd (stopped-no_clock s.stage clock);
      }
      | inr other ↦ record {
        eligible = rw other sound.eligible;
        now = sound.now;
        valid = rw other sound.valid;
        unsubmitted = λ clock. absurd (stopped-no_clock s.stage clock);
      }
    ]

-- a close that posts prices comes in the clock
posts : (n : ℕ) (final now : Option ℕ) (p prices : List ℕ) → (if is_clock (stage_by (suc n) (option_or final now)) then Some prices else None) ≡ Some p
    → is_clock (stage_by n final) ≡ true
posts n None now p prices h = refl
posts n (Some final) now p prices h =
    elim (cases_Bool (nat_eq (suc n) final)) [
      | inl last ↦ let no : None ≡ Some p = rw last at h in cc
      | inr other ↦ let no : None ≡ Some p = rw other at h in cc
    ]

posted-clock : (terms : Terms) (lines : List Event) (p : List ℕ) → posted terms lines ≡ Some p → is_clock
    (stage_after terms (held_in terms lines) (closes lines)) ≡ true
posted-clock terms lines p h =
    posts (closes lines) (final_round terms (held_in terms lines) (closes lines))
    (if is_within (demand terms (held_in terms lines) (suc (closes lines))) terms.supply then Some (suc (closes lines)) else None)
    p (prices_after terms (held_in terms lines) (suc (closes lines))) h

-- every standing after a log is sound
pub IsSound-standing : (terms : Terms) (j : ℕ) (log : List Event) → IsSound terms (standing terms (admitted terms log) j)
IsSound-standing terms j [] = record { eligible = tt; now = omega (arith, cost_of-zeros terms.points terms.supply); valid = refl; unsubmitted = λ clock. refl }
IsSound-standing terms j (e ∷ log) =
    let lines : List Event = admitted terms log in
    let before : IsSound terms (standing terms lines j) = IsSound-standing terms j log in
    let P : List Event → Type 0 = λ lines. IsSound terms (standing terms lines j) in
    elim (cases_Bool (is_ok_reply (reply_after terms lines e))) [
      | inr refused ↦ subst P (sym (with_line-refused terms lines e refused)) before
      | inl ok ↦ subst P (sym (with_line-ok terms lines e ok)) (elim (cases_line j e) [
        | a_close is ↦ let Q : Event → Type 0 = λ e. IsSound terms (standing terms (e ∷ lines) j) in
            subst Q (sym is) (subst (IsSound terms) (sym (standing-close terms j lines))
            (IsSound-close terms (standing terms lines j) (posted terms lines) (λ p h. posted-clock terms lines p h) before))
        | an_own mine ↦ let c : is_close e ≡ false = (is_of-parts j e mine).0 in
            let ok' : is_ok_reply (own_reply terms j (standing terms lines j) e) ≡ true = ap is_ok_reply (sym (reply_after-own terms lines j e mine)) ∙ ok in
            subst (IsSound terms) (sym (standing-own terms j e lines c mine)) (IsSound-own terms j (standing terms lines j) e ok' c before)
        | another c theirs ↦ subst (IsSound terms) (sym (standing-other terms j e lines c theirs)) before
      ])
    ]

-- after any log a bidder's bids in the book are within their caps over themselves
pub list_fault-bids_in_book : (terms : Terms) (log : List Event) (j : ℕ)
    → list_fault (final_cap terms) terms.points (standing terms (admitted terms log) j).rounds (bids_in_book terms log j) ≡ None
list_fault-bids_in_book terms log j =
    let s : Standing = standing terms (admitted terms log) j in
    let sound : IsSound terms s = IsSound-standing terms j log in
    list_fault-best_bids (final_cap terms) terms.points s.rounds s.submitted
    (AreRising-own_rounds terms (held_in terms (admitted terms log)) j (closed_after terms (held_in terms (admitted terms log))
    (closes (admitted terms log)))) sound.eligible sound.valid
