-- The clock of a made auction, and what it leaves to each bidder.
use Rattle.std.proofs.Common.{List, [], ap, arith, false, get_or, inl, inr, map, refl, subst, suc, sym, true, zero, ℕ, ◌&&◌, ◌++◌, ◌+◌, ◌-◌, ◌<◌, ◌∙◌}
use Rattle.std.proofs.Common.{◌∷◌, ◌≡◌, ◌≤◌}
use Rattle.std.specs.Prelude.{◌⊎◌, nat_le, slice_index, flat_map}
use Rattle.std.specs.List.{AllByRecursion}
use Rattle.std.proofs.lemmas.Bool.{cases_lt, leb-true, le-leb, lt-leb, lt-ltb, and_from, cond-true, cond-false}
use Rattle.std.proofs.lemmas.List.{append-nil, map-append}
use Rattle.std.proofs.lemmas.List.Concat.{flat_map-append}
use Rattle.auction_model.specs.Package.{cost_of, is_within, together}
use Rattle.auction_rules.specs.declared.Event.{Event}
use Rattle.auction_rules.specs.declared.Event.TheVariants.{Close}
use Rattle.auction_rules.specs.Terms.{entrant, no_lots}
use Rattle.auction_rules.specs.Rounds.{OwnRound, demand, eligibility_after, listing, prices_after, sum_of}
use Rattle.auction_rules.specs.State.{DeskState, own_of, round_of, state_of}
use Rattle.auction_model.proofs.PackageTestLaws.{within-first_over}
use Rattle.auction_rules.proofs.States.{get_or-listing}
use Rattle.big_auction.specs.MadeAward.{made_entrant, made_terms}
use Rattle.big_auction.specs.MadeLog.{package_of, reduced, final_package_of, held_by, final_prices, round_lines, bids_of, clock_lines}
use Rattle.big_auction.proofs.ClockRounds.{MayBid, no_lists, posted, rounds_to, round-goes, last_round-goes, sealed_state}
use Rattle.big_auction.proofs.Drawing.{IsOwn-package_of}
use Rattle.big_auction.proofs.Forward.{Goes, goes-on}
use Rattle.big_auction.proofs.Offers.{IsClockRound, IsBidding, last_with, own-within, own-points, own-lot, reduced-own, reduced-points}
use Rattle.big_auction.proofs.PriceBounds.{cost-rises, prices-small}
use Rattle.big_auction.proofs.SealedRound.{IsKnown}

-- what f gives at 1 to n, one after another
pub goes-flat : (f : ℕ → List Event) (n : ℕ) (st : DeskState) (At : ℕ → DeskState → Type 0) → At 0 st
    → ((i : ℕ) (s : DeskState) → i < n → At i s → Goes s (f (suc i)) (At (suc i))) → Goes st (flat_map f (listing (λ k. k) n)) (At n)
goes-flat f zero st At start step = record { pass = tt; to = start }
goes-flat f (suc n) st At start step =
    let before : Goes st (flat_map f (listing (λ k. k) n)) (At n) = goes-flat f n st At start (λ i s low at. step i s (omega arith) at) in
    let split : flat_map f (listing (λ k. k) n ++ suc n ∷ []) ≡ flat_map f (listing (λ k. k) n) ++ f (suc n) =
    flat_map-append f (listing (λ k. k) n) (suc n ∷ []) ∙ ap (λ (es : List Event). flat_map f (listing (λ k. k) n) ++ es) (append-nil (f (suc n))) in
    subst (λ (es : List Event). Goes st es (At (suc n))) (sym split)
    (goes-on st (flat_map f (listing (λ k. k) n)) (f (suc n)) (At n) (At (suc n)) before (λ s at. step n s (omega arith) at))

-- ---- what is held

-- up to round 9 a bidder holds its own package
pub held-early : (number r k : ℕ) → r ≤ 9 → held_by number r k ≡ package_of number k
held-early number r k few = cond-true (nat_le r 9) (package_of number k) (final_package_of number k) (le-leb r 9 few)

-- after round 9 it holds its last one
pub held-last : (number r k : ℕ) → 9 < r → held_by number r k ≡ final_package_of number k
held-last number r k more = cond-false (nat_le r 9) (package_of number k) (final_package_of number k) (lt-leb r 9 more)

-- the last package of the bidders 1 to 4 is their own, reduced
pub stays : (number k : ℕ) → k ≤ 4 → final_package_of number k ≡ reduced (package_of number k)
stays number k few = cond-true (nat_le k 4) (reduced (package_of number k)) (no_lots made_terms) (le-leb k 4 few)

-- that of the others has no lots
pub leaves : (number k : ℕ) → 4 < k → final_package_of number k ≡ no_lots made_terms
leaves number k more = cond-false (nat_le k 4) (reduced (package_of number k)) (no_lots made_terms) (lt-leb k 4 more)

-- the bidders 1 to 12 of the made award are the made ones
pub is-entrant : (k : ℕ) → 1 ≤ k → k ≤ 12 → entrant made_terms k ≡ made_entrant k
is-entrant k some few =
    let e : suc (k - 1) ≡ k = omega arith in
    get_or-listing made_entrant 12 (k - 1) (record { name = []; eligibility = 0; holding = [] }) (omega arith) ∙ ap made_entrant e

-- the bidders 1 to 12 are known, with an eligibility of 73
pub known : (k : ℕ) → 1 ≤ k → k ≤ 12 → IsKnown k
known k some few = record {
  known = rw (lt-ltb 0 k (omega arith), le-leb k 12 few) refl;
  few = omega arith;
  some = some;
  eligible = ap (λ (e : _). e.eligibility) (is-entrant k some few);
}

-- a bidder's last package is within the supply
pub final-within : (number k : ℕ) → is_within (final_package_of number k) made_terms.supply ≡ true
final-within number k =
    elim (cases_lt 4 k) [
      | inl more ↦ rw (leaves number k more) refl
      | inr few ↦ rw (stays number k few) (own-within (reduced (package_of number k)) (reduced-own (package_of number k) (IsOwn-package_of number k)))
    ]

-- and it has no more points than the bidder's own
pub final-points : (number k : ℕ) → cost_of made_terms.points (final_package_of number k) ≤ cost_of made_terms.points (package_of number k)
final-points number k =
    elim (cases_lt 4 k) [
      | inl more ↦ rw (leaves number k more) (omega arith)
      | inr few ↦ rw (stays number k few) (reduced-points (package_of number k) (IsOwn-package_of number k))
    ]

-- the eligibility is enough for a package of the first rounds
eligible : (number k n : ℕ) → 1 ≤ k → k ≤ 12 → n ≤ 9 → cost_of made_terms.points (package_of number k) ≤ eligibility_after made_terms (held_by number) k n
eligible number k zero some few early =
    let e : (entrant made_terms k).eligibility ≡ 73 = (known k some few).eligible in
    rw e (omega (arith, own-points (package_of number k) (IsOwn-package_of number k)))
eligible number k (suc n) some few early = rw (held-early number (suc n) k early) (omega arith)

may-early : (number n : ℕ) → n < 9 → (k : ℕ) → 1 ≤ k → k ≤ 12 → MayBid (eligibility_after made_terms (held_by number) k n) (held_by number (suc n) k)
may-early number n early k some few =
    subst (MayBid (eligibility_after made_terms (held_by number) k n)) (sym (held-early number (suc n) k (omega arith)))
    (record {
      within = within-first_over 1 (package_of number k) made_terms.supply (own-within (package_of number k) (IsOwn-package_of number k));
      points = eligible number k n some few (omega arith);
    })

may-last : (number n : ℕ) → n ≡ 9 → (k : ℕ) → 1 ≤ k → k ≤ 12 → MayBid (eligibility_after made_terms (held_by number) k n) (held_by number (suc n) k)
may-last number n is k some few =
    subst (MayBid (eligibility_after made_terms (held_by number) k n)) (sym (held-last number (suc n) k (omega arith)))
    (record {
      within = within-first_over 1 (final_package_of number k) made_terms.supply (final-within number k);
      points = omega (arith, final-points number k, eligible number k n some few (omega arith));
    })

-- ---- what is asked for

-- two packages together have as many lots of the first category as both of them
pub head-together : (p q : List ℕ) → slice_index (together p q) 0 ≡ slice_index p 0 + slice_index q 0
head-together [] q = omega arith
head-together (a ∷ p) [] = omega arith
head-together (a ∷ p) (b ∷ q) = omega arith

head-sum : (none : List ℕ) (f : ℕ → List ℕ) (n : ℕ) → ((k : ℕ) → 1 ≤ slice_index (f k) 0) → n ≤ slice_index (sum_of none f n) 0
head-sum none f zero each = omega arith
head-sum none f (suc n) each = omega (arith, head-together (sum_of none f n) (f (suc n)), head-sum none f n each, each (suc n))

over-head : (d rest : List ℕ) (most : ℕ) → most < slice_index d 0 → is_within d (most ∷ rest) ≡ false
over-head [] rest most more = absurd (omega arith)
over-head (a ∷ d) rest most more = rw (lt-leb a most more) refl

over-early : (number n : ℕ) → n < 9 → is_within (demand made_terms (held_by number) (suc n)) made_terms.supply ≡ false
over-early number n early =
    let each : (k : ℕ) → 1 ≤ slice_index (held_by number (suc n) k) 0 = λ k. rw (held-early number (suc n) k (omega arith))
    (own-lot (package_of number k) (IsOwn-package_of number k)) in
    over-head (demand made_terms (held_by number) (suc n)) (1 ∷ 14 ∷ 9 ∷ []) 4 (omega (arith, head-sum (no_lots made_terms) (held_by number (suc n)) 12 each))

within-last : (number : ℕ) → is_within (demand made_terms (held_by number) 10) made_terms.supply ≡ true
within-last number =
    let d : List ℕ = demand made_terms (held_by number) 10 in
    let third : slice_index d 2 ≤ 14 = omega arith in
    let fourth : slice_index d 3 ≤ 9 = omega arith in
    let last : (nat_le (slice_index d 3) 9 && true) ≡ true = and_from (nat_le (slice_index d 3) 9) true (le-leb (slice_index d 3) 9 fourth) refl in
    and_from (nat_le (slice_index d 2) 14) (nat_le (slice_index d 3) 9 && true) (le-leb (slice_index d 2) 14 third) last

-- ---- the clock

-- before the first line the first round is posted
pub starts : (number : ℕ) → state_of made_terms [] ≡ posted (held_by number) 0
unfolding state_of posted
starts number = refl

abbrev pub last_eligibility : ℕ → List ℕ
last_eligibility number = listing (λ j. eligibility_after made_terms (held_by number) j 9) 12

abbrev pub last_held : ℕ → List (List ℕ)
last_held number = listing (held_by number 10) 12

-- the clock of a made auction stops after ten rounds
pub clock-goes : (number : ℕ) → Goes (posted (held_by number) 0) (clock_lines number)
    (λ s. s ≡ sealed_state (rounds_to (held_by number) 10) (prices_after made_terms (held_by number) 9) (last_eligibility number)
    (last_held number) no_lists no_lists)
clock-goes number =
    let To : DeskState → Type 0 = λ s. s ≡ sealed_state (rounds_to (held_by number) 10) (prices_after made_terms (held_by number) 9) (last_eligibility number)
    (last_held number) no_lists no_lists in
    let last : Goes (posted (held_by number) 9) (bids_of number 10 4 ++ Close ∷ []) To =
    last_round-goes (held_by number) 9 (may-last number 9 refl) (λ k more. held-last number 10 k (omega arith) ∙ leaves number k more) (within-last number) in
    goes-on (posted (held_by number) 0) (flat_map (round_lines number) (listing (λ r. r) 9)) (bids_of number 10 4 ++ Close ∷ [])
    (λ s. s ≡ posted (held_by number) 9) To
    (goes-flat (round_lines number) 9 (posted (held_by number) 0) (λ n s. s ≡ posted (held_by number) n) refl
    (λ n s low is. subst (λ (s : DeskState). Goes s (round_lines number (suc n)) (λ t. t ≡ posted (held_by number) (suc n))) (sym is)
    (round-goes (held_by number) n low (may-early number n low) (over-early number n low))))
    (λ s is. subst (λ (s : DeskState). Goes s (bids_of number 10 4 ++ Close ∷ []) To) (sym is) last)

-- ---- what the clock leaves to a bidder

own_of-round : (held : ℕ → ℕ → List ℕ) (k n : ℕ) → 1 ≤ k → k ≤ 12
    → own_of k (round_of made_terms held (suc n)) ≡ record {
      prices = prices_after made_terms held n;
      eligibility =
          eligibility_after made_terms held k n;
      held = held (suc n) k;
    }
own_of-round held k n some few =
    let e : suc n - 1 ≡ n = omega arith in
    let at : suc (k - 1) ≡ k = omega arith in
    let eligibility : get_or (listing (λ j. eligibility_after made_terms held j n) 12) (k - 1) 0 ≡ eligibility_after made_terms held k n =
    get_or-listing (λ j. eligibility_after made_terms held j n) 12 (k - 1) 0 (omega arith) ∙ ap (λ (j : ℕ). eligibility_after made_terms held j n) at in
    let lots : get_or (listing (held (suc n)) 12) (k - 1) [] ≡ held (suc n) k = get_or-listing (held (suc n)) 12 (k - 1) [] (omega arith)
    ∙ ap (held (suc n)) at in
    rw (e, eligibility, lots) refl

-- the rounds of a bidder
pub own-rounds : (held : ℕ → ℕ → List ℕ) (k n : ℕ) → map (own_of k) (rounds_to held (suc n)) ≡ map (own_of k) (rounds_to held n)
    ++ own_of k (round_of made_terms held (suc n)) ∷ []
unfolding rounds_to
own-rounds held k n = map-append (own_of k) (listing (round_of made_terms held) n) (round_of made_terms held (suc n) ∷ [])

-- what each of the rounds keeps, and one more, each keeps with it after them
pub each-push : (P : OwnRound → Type 0) (xs : List OwnRound) (x : OwnRound) → AllByRecursion P xs → P x → AllByRecursion P (xs ++ x ∷ [])
each-push P [] x each last = (last, tt)
each-push P (y ∷ xs) x each last = (each.0, each-push P xs x each.1 last)

-- before the first close a bidder has no rounds
pub none-yet : (held : ℕ → ℕ → List ℕ) (k : ℕ) → map (own_of k) (rounds_to held 0) ≡ []
unfolding rounds_to
none-yet held k = refl

clock-rounds : (held : ℕ → ℕ → List ℕ) (own final : List ℕ) (k most n : ℕ) → 1 ≤ k → k ≤ 12 → n ≤ suc most → ((r : ℕ) → (held r k ≡ own) ⊎ (held r k ≡ final))
    → AllByRecursion (IsClockRound (prices_after made_terms held most) own final) (map (own_of k) (rounds_to held n))
clock-rounds held own final k most zero some few low each = subst (AllByRecursion (IsClockRound (prices_after made_terms held most) own final))
    (sym (none-yet held k)) tt
clock-rounds held own final k most (suc n) some few low each =
    let P : OwnRound → Type 0 = IsClockRound (prices_after made_terms held most) own final in
    let e : (most - n) + n ≡ most = omega arith in
    let up : cost_of (prices_after made_terms held n) (held (suc n) k) ≤ cost_of (prices_after made_terms held most) (held (suc n) k) =
    subst (λ (m : ℕ). cost_of (prices_after made_terms held n) (held (suc n) k) ≤ cost_of (prices_after made_terms held m) (held (suc n) k)) e
    (cost-rises held n (most - n) (held (suc n) k)) in
    let last : P (own_of k (round_of made_terms held (suc n))) = subst P (sym (own_of-round held k n some few)) (record { held = each (suc n); cost = up }) in
    subst (AllByRecursion P) (sym (own-rounds held k n)) (each-push P (map (own_of k) (rounds_to held n)) (own_of k (round_of made_terms held (suc n)))
    (clock-rounds held own final k most n some few (omega arith) each) last)

held-either : (number k r : ℕ) → (held_by number r k ≡ package_of number k) ⊎ (held_by number r k ≡ final_package_of number k)
held-either number k r = elim (cases_lt 9 r) [ inl more ↦ inr (held-last number r k more) | inr few ↦ inl (held-early number r k few) ]

reserve-low : (held : ℕ → ℕ → List ℕ) (n : ℕ) (lots : List ℕ) → cost_of made_terms.reserves lots ≤ cost_of (prices_after made_terms held n) lots
reserve-low held n lots = let e : n + 0 ≡ n = omega arith in subst (λ (m : ℕ). cost_of made_terms.reserves lots ≤ cost_of
    (prices_after made_terms held m) lots) e (cost-rises held 0 n lots)

abbrev same_rounds : OwnRound → OwnRound → Type 0
same_rounds r s = r ≡ s

last-parts : (prices : List ℕ) (a b : ℕ) (x y : List ℕ) → a ≡ b → x ≡ y → same_rounds (record { prices = prices; eligibility = a; held = x })
    (record { prices = prices; eligibility = b; held = y })
last-parts prices a b x y e h = rw (e, h) refl

last-eligibility : (number k n : ℕ) → n ≡ 9 → eligibility_after made_terms (held_by number) k n ≡ cost_of made_terms.points (package_of number k)
last-eligibility number k zero is = absurd (omega arith)
last-eligibility number k (suc n) is = ap (cost_of made_terms.points) (held-early number (suc n) k (omega arith))

bidding-by : (number k n : ℕ) → 1 ≤ k → k ≤ 12 → n ≡ 9 → IsBidding (map (own_of k) (rounds_to (held_by number) (suc n)))
    (prices_after made_terms (held_by number) n) (package_of number k) (final_package_of number k) k
bidding-by number k n some few is =
    let own : List ℕ = package_of number k in
    let final : List ℕ = final_package_of number k in
    let last : own_of k (round_of made_terms (held_by number) (suc n)) ≡ last_with (prices_after made_terms (held_by number) n) own final =
    own_of-round (held_by number) k n some few
    ∙ last-parts (prices_after made_terms (held_by number) n) _ _ _ _ (last-eligibility number k n is) (held-last number (suc n) k (omega arith)) in
    record {
      kind = IsOwn-package_of number k;
      small = prices-small (held_by number) n (omega arith);
      reserve = reserve-low (held_by number) n;
      clock = clock-rounds (held_by number) own final k n (suc n) some few (omega arith) (held-either number k);
      last = record {
        before = map (own_of k) (rounds_to (held_by number) n);
        are = own-rounds (held_by number) k n
            ∙ ap (λ (r : OwnRound). map (own_of k) (rounds_to (held_by number) n) ++ r ∷ []) last;
      };
      stays = λ stay. stays number k (leb-true k 4 stay);
    }

-- after the ten rounds each bidder has what its lines of the sealed round need
pub bidding : (number k : ℕ) → 1 ≤ k → k ≤ 12 → IsBidding (map (own_of k) (rounds_to (held_by number) 10)) (final_prices number) (package_of number k)
    (final_package_of number k) k
unfolding final_prices
bidding number k some few = bidding-by number k 9 some few refl
