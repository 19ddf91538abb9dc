-- What bids and closes leave of what a clock keeps.
use Rattle.std.proofs.Common.{Bool, List, None, Option, Some, [], ap, arith, false, inl, inr, length, map, not, refl, set, subst, suc, sym, true, ℕ}
use Rattle.std.proofs.Common.{◌&&◌, ◌++◌, ◌<◌, ◌^◌, ◌∙◌, ◌∷◌, ◌≡◌, ◌≤◌}
use Rattle.std.specs.Prelude.{sum, replicate, nat_le, nat_lt, if◌then◌else◌}
use Rattle.std.specs.List.{All, AllByRecursion}
use Rattle.std.proofs.lemmas.Bool.{cases_Bool, leb-true, leb-false, cond-true}
use Rattle.std.proofs.lemmas.List.{length-map, length-append, length-set, length-replicate}
use Rattle.std.proofs.lemmas.List.Elements.{All-from_recursion, All-push, All-nil, All-set, All-replicate}
use Rattle.auction_model.specs.Package.{cost_of, is_within}
use Rattle.auction_rules.specs.declared.Reply.{Reply}
use Rattle.auction_rules.specs.declared.Reply.TheVariants as reply
use Rattle.auction_rules.specs.declared.Stage.TheVariants.{Clock}
use Rattle.auction_rules.specs.Terms.{Terms, broken_cap, no_lots}
use Rattle.auction_rules.specs.Rounds.{raised_prices}
use Rattle.auction_rules.specs.Replies.{bid_reply, first_reply, points_above, price_top, spectrum_reply, supply_reply, when}
use Rattle.auction_model.specs.PackageTests.{first_over}
use Rattle.auction_rules.specs.State.{asked}
use Rattle.auction_model.proofs.PackageTestLaws.{first_over-within}
use Rattle.auction_rules.proofs.LawfulBids.{sum-within}
use Rattle.award_file.specs.Award.{IsAward}
use Rattle.clock_stage.specs.ClockState.{ClockState, clock_with, round_with, reply_to_close, has_excess, next_prices, next_round}
use Rattle.clock_stage.specs.Kept.{IsHeld, IsRound, IsClock, IsFor}
use Rattle.clock_stage.proofs.Demands.{zeros-sum, map-same}

-- a reply that is Ok passed each condition
pub passed : (holds : Bool) (r : Reply) (rest : List (Option Reply)) → (r ≡ reply.Ok → ⊥) → first_reply (when holds r ∷ rest) ≡ reply.Ok
    → (holds ≡ false) × (first_reply rest ≡ reply.Ok)
passed true r rest other ok = absurd (other ok)
passed false r rest other ok = (refl, ok)

supply_passed : (over : Option ℕ) (rest : List (Option Reply)) → first_reply (supply_reply over ∷ rest) ≡ reply.Ok → over ≡ None
supply_passed None rest ok = refl
supply_passed (Some category) rest ok = cc

-- what is tested after the supply
behind_supply : Terms → ℕ → ℕ → List ℕ → List (Option Reply)
behind_supply terms eligibility j lots = spectrum_reply (broken_cap terms j lots) ∷ points_above terms lots eligibility ∷ []

-- a package that is bid is within the supply
bid-within : (terms : Terms) (eligibility j : ℕ) (lots : List ℕ) → bid_reply terms Clock eligibility j lots ≡ reply.Ok → is_within lots terms.supply ≡ true
unfolding behind_supply
bid-within terms eligibility j lots ok =
    let known = passed (not (nat_lt 0 j && nat_le j (length terms.bidders))) reply.Unknown
    (supply_reply (first_over 1 lots terms.supply) ∷ behind_supply terms eligibility j lots) (λ e. cc) ok in
    first_over-within 1 lots terms.supply (supply_passed (first_over 1 lots terms.supply) (behind_supply terms eligibility j lots) known.1)

-- and has at most 40 lots
pub bid-lots : (terms : Terms) (eligibility j : ℕ) (lots : List ℕ) → IsAward terms → bid_reply terms Clock eligibility j lots ≡ reply.Ok → sum lots ≤ 40
bid-lots terms eligibility j lots award ok = omega (arith, sum-within lots terms.supply (bid-within terms eligibility j lots ok), award.supply.lots)

-- a package without a lot
no_lots-held : (terms : Terms) (categories : ℕ) → length terms.supply ≡ categories → IsHeld categories (no_lots terms)
no_lots-held terms categories e = record { count = length-map terms.supply (λ n. 0) ∙ e; few = omega (arith, zeros-sum terms.supply) }

empty_held : (terms : Terms) (categories : ℕ) (held : List (List ℕ)) → length terms.supply ≡ categories
    → All (IsHeld categories) (map (λ lots. no_lots terms) held)
empty_held terms categories held e =
    subst (All (IsHeld categories)) (sym (map-same (no_lots terms) held)) (All-replicate (IsHeld categories) (length held) (no_lots terms)
    (no_lots-held terms categories e))

-- the clock after a bid
pub bid-kept : (clock : ClockState) (i : ℕ) (lots : List ℕ) → IsClock clock → length lots ≡ length clock.posted.prices → sum lots ≤ 40
    → IsClock (clock_with clock.running clock.rounds (round_with clock.posted.prices clock.posted.eligibility (set clock.posted.held i lots)))
bid-kept clock i lots kept e few =
    let categories : ℕ = length clock.posted.prices in
    let same : length (set clock.posted.held i lots) ≡ length clock.posted.held = length-set clock.posted.held i lots in
    record {
      few_bidders = omega (arith, kept.few_bidders);
      few_categories = kept.few_categories;
      posted = record {
        prices = kept.posted.prices;
        most_price = kept.posted.most_price;
        eligibility = kept.posted.eligibility ∙ sym same;
        held = refl;
        packages = All-set (IsHeld categories) clock.posted.held i lots (record { count = e; few = few }) kept.posted.packages;
      };
      closed = subst (λ (n : ℕ). All (IsRound n categories) clock.rounds) (sym same) kept.closed;
      few = kept.few;
      room = kept.room;
    }

-- there are as many raised prices as prices
pub length-raised_prices : (tick : ℕ) (thresholds : List (ℕ × ℕ)) (prices d supply : List ℕ) → length
    (raised_prices tick thresholds prices d supply) ≡ length prices
length-raised_prices tick thresholds [] d supply = refl
length-raised_prices tick thresholds (p ∷ prices) [] supply = refl
length-raised_prices tick thresholds (p ∷ prices) (n ∷ d) [] = refl
length-raised_prices tick thresholds (p ∷ prices) (n ∷ d) (s ∷ supply) = ap suc (length-raised_prices tick thresholds prices d supply)

-- no price is above the greatest one if a close is admitted
tops : (category : ℕ) (prices : List ℕ) → first_reply (price_top category prices ∷ []) ≡ reply.Ok → AllByRecursion (λ p. p ≤ 2 ^ 36) prices
tops category [] ok = tt
tops category (p ∷ prices) ok =
    elim (cases_Bool (nat_le p (2 ^ 36))) [
      | inl low ↦ (leb-true p (2 ^ 36) low, tops (suc category) prices (rw low at ok))
      | inr high ↦ let other : reply.PriceTop category p ≡ reply.Ok = rw high at ok in cc
    ]

-- the conditions of an admitted close with excess demand
close-passed : (terms : Terms) (clock : ClockState) → has_excess terms clock ≡ true → reply_to_close terms clock ≡ reply.Ok
    → ((has_excess terms clock && nat_le 300 (suc (length clock.rounds))) ≡ false) × (first_reply (price_top 1 (next_prices terms clock) ∷ []) ≡ reply.Ok)
close-passed terms clock excess ok =
    let early = passed (has_excess terms clock && nat_le 300 (suc (length clock.rounds))) (reply.Full 300)
    ((if has_excess terms clock then price_top 1 (next_prices terms clock) else None) ∷ []) (λ e. cc) ok in (
      early.0,
      ap (λ (o : Option Reply). first_reply (o ∷ [])) (sym (cond-true (has_excess terms clock) (price_top 1 (next_prices terms clock)) None excess))
          ∙ early.1,
    )

-- the clock after a close with excess demand
pub next-kept : (terms : Terms) (clock : ClockState) → IsFor terms clock → IsClock clock → has_excess terms clock ≡ true → reply_to_close terms clock ≡ reply.Ok
    → IsClock (clock_with true (clock.rounds ++ clock.posted ∷ []) (next_round terms (next_prices terms clock) clock.posted))
next-kept terms clock fits kept excess ok =
    let conditions = close-passed terms clock excess ok in
    let early : suc (length clock.rounds) < 300 = leb-false 300 (suc (length clock.rounds))
    (ap (λ b. b && nat_le 300 (suc (length clock.rounds))) (sym excess) ∙ conditions.0) in
    let prices : length (next_prices terms clock) ≡ length clock.posted.prices = length-raised_prices terms.tick terms.thresholds clock.posted.prices
    (asked terms clock.posted.held) terms.supply in
    let bidders : length (map (λ lots. no_lots terms) clock.posted.held) ≡ length clock.posted.held = length-map clock.posted.held (λ lots. no_lots terms) in
    let count : length (clock.rounds ++ clock.posted ∷ []) ≡ suc (length clock.rounds) = length-append clock.rounds (clock.posted ∷ []) ∙ (omega arith) in
    let closed : All (IsRound (length clock.posted.held) (length clock.posted.prices)) (clock.rounds ++ clock.posted ∷ [])
    = All-push (IsRound (length clock.posted.held) (length clock.posted.prices)) clock.rounds clock.posted kept.closed kept.posted in
    record {
      few_bidders = omega (arith, kept.few_bidders);
      few_categories = omega (arith, kept.few_categories);
      posted = record {
        prices = refl;
        most_price = All-from_recursion (λ p. p ≤ 2 ^ 36) (next_prices terms clock) (tops 1 (next_prices terms clock) conditions.1);
        eligibility = length-map clock.posted.held (cost_of terms.points) ∙ sym bidders;
        held = refl;
        packages = empty_held terms (length (next_prices terms clock)) clock.posted.held (sym fits.categories ∙ sym prices);
      };
      closed = subst (λ (n : ℕ). All (IsRound n (length (next_prices terms clock))) (clock.rounds ++ clock.posted ∷ [])) (sym bidders)
          (subst (λ (n : ℕ). All (IsRound (length clock.posted.held) n) (clock.rounds ++ clock.posted ∷ [])) (sym prices) closed);
      few = omega (arith, count);
      room = λ running. omega (arith, count);
    }

-- and it stays a clock of the award
pub next-for : (terms : Terms) (clock : ClockState) → IsFor terms clock → IsFor terms
    (clock_with true (clock.rounds ++ clock.posted ∷ []) (next_round terms (next_prices terms clock) clock.posted))
next-for terms clock fits = record {
  bidders = length-map clock.posted.held (λ lots. no_lots terms) ∙ fits.bidders;
  categories = length-raised_prices terms.tick terms.thresholds clock.posted.prices (asked terms clock.posted.held) terms.supply ∙ fits.categories;
}

-- the clock after the last close
pub end-kept : (clock : ClockState) → IsClock clock → clock.running ≡ true → IsClock (clock_with false (clock.rounds ++ clock.posted ∷ []) clock.posted)
end-kept clock kept running =
    let count : length (clock.rounds ++ clock.posted ∷ []) ≡ suc (length clock.rounds) = length-append clock.rounds (clock.posted ∷ []) ∙ (omega arith) in
    record {
      few_bidders = kept.few_bidders;
      few_categories = kept.few_categories;
      posted = kept.posted;
      closed = All-push (IsRound (length clock.posted.held) (length clock.posted.prices)) clock.rounds clock.posted kept.closed kept.posted;
      few = omega (arith, count, kept.room running);
      room = λ running. cc;
    }

-- the clock of round 1
pub start-kept : (terms : Terms) (eligibility : List ℕ) → IsAward terms → length eligibility ≡ length terms.bidders
    → IsClock (clock_with true [] (round_with terms.reserves eligibility (replicate (length terms.bidders) (no_lots terms))))
start-kept terms eligibility award e =
    let bidders : length (replicate (length terms.bidders) (no_lots terms)) ≡ length terms.bidders = length-replicate (length terms.bidders) (no_lots terms) in
    record {
      few_bidders = omega (arith, award.few_bidders);
      few_categories = omega (arith, award.reserves, award.supply.categories);
      posted = record {
        prices = refl;
        most_price = award.most_reserve;
        eligibility = e ∙ sym bidders;
        held = refl;
        packages = All-replicate (IsHeld (length terms.reserves)) (length terms.bidders) (no_lots terms)
            (no_lots-held terms (length terms.reserves) (sym award.reserves));
      };
      closed = All-nil (IsRound (length (replicate (length terms.bidders) (no_lots terms))) (length terms.reserves));
      few = omega arith;
      room = λ running. omega arith;
    }
