-- The rounds of the clock in a made auction, over what each bidder holds.
use Rattle.std.proofs.Common.{Bool, List, None, [], arith, false, length, not, refl, replicate, subst, suc, sym, true, ℕ, ◌&&◌, ◌++◌, ◌-◌, ◌<◌, ◌∙◌}
use Rattle.std.proofs.Common.{◌∷◌, ◌≡◌, ◌≤◌}
use Rattle.std.specs.Prelude.{nat_le, nat_lt}
use Rattle.std.proofs.lemmas.Bool.{le-ltb, lt-leb, cond-true, cond-false}
use Rattle.auction_model.specs.Book.{BookBid}
use Rattle.auction_model.specs.Package.{cost_of, is_within}
use Rattle.auction_rules.specs.declared.Event.TheVariants.{Bid, Close}
use Rattle.auction_rules.specs.declared.Reply.TheVariants as reply
use Rattle.auction_rules.specs.declared.Stage.TheVariants.{Clock, Sealed}
use Rattle.auction_model.specs.PackageTests.{first_over}
use Rattle.auction_rules.specs.Terms.{no_lots}
use Rattle.auction_rules.specs.Rounds.{demand, eligibility_after, listing, prices_after}
use Rattle.auction_rules.specs.Replies.{bid_reply, closing_reply, price_top}
use Rattle.auction_rules.specs.State.{DeskState, Round, asked, clock_stopped, next_round, round_now, round_of}
use Rattle.auction_rules.proofs.States.{length-listing}
use Rattle.big_auction.specs.MadeAward.{made_terms}
use Rattle.big_auction.proofs.Forward.{Goes, goes-on, goes-one}
use Rattle.big_auction.proofs.PriceBounds.{prices-small, no_price_top}

abbrev pub no_lists : List (List BookBid)
no_lists = replicate 12 []

abbrev pub none_held : List (List ℕ)
none_held = replicate 12 (no_lots made_terms)

-- a state of the clock
abbrev pub clock_state : List Round → List ℕ → List ℕ → List (List ℕ) → DeskState
clock_state rounds prices eligibility held = record {
  terms = made_terms;
  stage = Clock;
  rounds = rounds;
  prices = prices;
  eligibility = eligibility;
  held = held;
  drafts = no_lists;
  submitted = no_lists;
}

-- a package that a bidder of this eligibility may bid
pub record MayBid (eligibility : ℕ) (lots : List ℕ) : Type 0 where
  pub within : first_over 1 lots made_terms.supply ≡ None
  pub points : cost_of made_terms.points lots ≤ eligibility

bid-ok : (eligibility k : ℕ) (lots : List ℕ) → (nat_lt 0 k && nat_le k 12) ≡ true → MayBid eligibility lots
    → bid_reply made_terms Clock eligibility k lots ≡ reply.Ok
bid-ok eligibility k lots known may = rw (known, may.within, le-ltb eligibility (cost_of made_terms.points lots) may.points) refl

-- all bidders bid
pub twelve-bids :
    (rounds : List Round) (prices : List ℕ) (eligibility : ℕ → ℕ) (p : ℕ → List ℕ) → ((k : ℕ) → 1 ≤ k → k ≤ 12 → MayBid (eligibility k) (p k))
    → Goes (clock_state rounds prices (listing eligibility 12) none_held) (listing (λ k. Bid k (p k)) 12)
    (λ s. s ≡ clock_state rounds prices (listing eligibility 12) (listing p 12))
twelve-bids rounds prices eligibility p may = record {
  pass = (
    bid-ok (eligibility 1) 1 (p 1) refl (may 1 (omega arith) (omega arith)),
    (
      bid-ok (eligibility 2) 2 (p 2) refl (may 2 (omega arith) (omega arith)),
      (
        bid-ok (eligibility 3) 3 (p 3) refl (may 3 (omega arith) (omega arith)),
        (
          bid-ok (eligibility 4) 4 (p 4) refl (may 4 (omega arith) (omega arith)),
          (
            bid-ok (eligibility 5) 5 (p 5) refl (may 5 (omega arith) (omega arith)),
            (
              bid-ok (eligibility 6) 6 (p 6) refl (may 6 (omega arith) (omega arith)),
              (
                bid-ok (eligibility 7) 7 (p 7) refl (may 7 (omega arith) (omega arith)),
                (
                  bid-ok (eligibility 8) 8 (p 8) refl (may 8 (omega arith) (omega arith)),
                  (
                    bid-ok (eligibility 9) 9 (p 9) refl (may 9 (omega arith) (omega arith)),
                    (
                      bid-ok (eligibility 10) 10 (p 10) refl (may 10 (omega arith) (omega arith)),
                      (
                        bid-ok (eligibility 11) 11 (p 11) refl (may 11 (omega arith) (omega arith)),
                        (bid-ok (eligibility 12) 12 (p 12) refl (may 12 (omega arith) (omega arith)), tt),
                      ),
                    ),
                  ),
                ),
              ),
            ),
          ),
        ),
      ),
    ),
  );
  to = refl;
}

-- four bidders bid
pub four-bids :
    (rounds : List Round) (prices : List ℕ) (eligibility : ℕ → ℕ) (p : ℕ → List ℕ) → ((k : ℕ) → 1 ≤ k → k ≤ 12 → MayBid (eligibility k) (p k))
    → ((k : ℕ) → 4 < k → p k ≡ no_lots made_terms)
    → Goes (clock_state rounds prices (listing eligibility 12) none_held) (listing (λ k. Bid k (p k)) 4)
    (λ s. s ≡ clock_state rounds prices (listing eligibility 12) (listing p 12))
four-bids rounds prices eligibility p may others = record {
  pass = (
    bid-ok (eligibility 1) 1 (p 1) refl (may 1 (omega arith) (omega arith)),
    (
      bid-ok (eligibility 2) 2 (p 2) refl (may 2 (omega arith) (omega arith)),
      (
        bid-ok (eligibility 3) 3 (p 3) refl (may 3 (omega arith) (omega arith)),
        (bid-ok (eligibility 4) 4 (p 4) refl (may 4 (omega arith) (omega arith)), tt),
      ),
    ),
  );
  to = rw (
    others 5 (omega arith),
    others 6 (omega arith),
    others 7 (omega arith),
    others 8 (omega arith),
    others 9 (omega arith),
    others 10 (omega arith),
    others 11 (omega arith),
    others 12 (omega arith),
  ) refl;
}

-- the reply to a close with excess demand, before the last round that there may be
excess-ok : (within : Bool) (rounds : ℕ) (prices : List ℕ) → within ≡ false → rounds < 299 → price_top 1 prices ≡ None
    → closing_reply false (not within) (suc rounds) prices ≡ reply.Ok
excess-ok within rounds prices over few top = let low : nat_le 300 (suc rounds) ≡ false = lt-leb 300 (suc rounds) (omega arith) in rw (over, low, top) refl

-- and to one without
no_excess-ok : (within : Bool) (round : ℕ) (prices : List ℕ) → within ≡ true → closing_reply false (not within) round prices ≡ reply.Ok
no_excess-ok within round prices is = rw is refl

-- the state in which the round after n others is posted
unfoldable pub posted : (ℕ → ℕ → List ℕ) → ℕ → DeskState
posted held n = clock_state (listing (round_of made_terms held) n) (prices_after made_terms held n) (listing (λ j. eligibility_after made_terms held j n) 12)
    none_held

-- the same with what is held in it
unfoldable pub asked_for : (ℕ → ℕ → List ℕ) → ℕ → DeskState
asked_for held n = clock_state (listing (round_of made_terms held) n) (prices_after made_terms held n)
    (listing (λ j. eligibility_after made_terms held j n) 12) (listing (held (suc n)) 12)

-- the rounds with one more
kept-round : (held : ℕ → ℕ → List ℕ) (n : ℕ) → clock_state (listing (round_of made_terms held) n ++ round_now (asked_for held n) ∷ [])
    (prices_after made_terms held (suc n)) (listing (λ j. eligibility_after made_terms held j (suc n)) 12) none_held
    ≡ posted held (suc n)
unfolding posted asked_for
kept-round held n = let e : suc n - 1 ≡ n = omega arith in rw e refl

close-goes : (held : ℕ → ℕ → List ℕ) (n : ℕ) → n < 9 → is_within (demand made_terms held (suc n)) made_terms.supply ≡ false
    → Goes (asked_for held n) (Close ∷ []) (λ s. s ≡ posted held (suc n))
unfolding posted asked_for
close-goes held n few over =
    let asks : List ℕ = asked made_terms (listing (held (suc n)) 12) in
    let over_now : is_within asks made_terms.supply ≡ false = over in
    let len : length (listing (round_of made_terms held) n) ≡ n = length-listing (round_of made_terms held) n in
    let top : price_top 1 (prices_after made_terms held (suc n)) ≡ None = no_price_top 1 (prices_after made_terms held (suc n))
    (prices-small held (suc n) (omega arith)) in
    goes-one (asked_for held n) Close (λ s. s ≡ posted held (suc n))
    (excess-ok (is_within asks made_terms.supply) (length (listing (round_of made_terms held) n)) (prices_after made_terms held (suc n)) over_now
    (omega (arith, len)) top)
    (cond-false (is_within asks made_terms.supply) (clock_stopped (asked_for held n)) (next_round (asked_for held n)) over_now ∙ kept-round held n)

-- one of the first rounds
pub round-goes : (held : ℕ → ℕ → List ℕ) (n : ℕ) → n < 9 → ((k : ℕ) → 1 ≤ k → k ≤ 12 → MayBid (eligibility_after made_terms held k n) (held (suc n) k))
    → is_within (demand made_terms held (suc n)) made_terms.supply ≡ false
    → Goes (posted held n) (listing (λ k. Bid k (held (suc n) k)) 12 ++ Close ∷ []) (λ s. s ≡ posted held (suc n))
unfolding posted asked_for
round-goes held n few may over =
    goes-on (posted held n) (listing (λ k. Bid k (held (suc n) k)) 12) (Close ∷ []) (λ s. s ≡ asked_for held n) (λ s. s ≡ posted held (suc n))
    (twelve-bids (listing (round_of made_terms held) n) (prices_after made_terms held n) (λ j. eligibility_after made_terms held j n) (held (suc n)) may)
    (λ s is. subst (λ (s : DeskState). Goes s (Close ∷ []) (λ t. t ≡ posted held (suc n))) (sym is) (close-goes held n few over))

-- the state of the sealed round, in which all stands that the clock has left
abbrev pub sealed_state : List Round → List ℕ → List ℕ → List (List ℕ) → List (List BookBid) → List (List BookBid) → DeskState
sealed_state rounds prices eligibility held drafts submitted = record {
  terms = made_terms;
  stage = Sealed;
  rounds = rounds;
  prices = prices;
  eligibility = eligibility;
  held = held;
  drafts = drafts;
  submitted = submitted;
}

-- the rounds of a clock that n + 1 rounds have closed
unfoldable pub rounds_to : (ℕ → ℕ → List ℕ) → ℕ → List Round
rounds_to held n = listing (round_of made_terms held) n

stop-goes : (held : ℕ → ℕ → List ℕ) (n : ℕ) → is_within (demand made_terms held (suc n)) made_terms.supply ≡ true
    → Goes (asked_for held n) (Close ∷ []) (λ s. s ≡ sealed_state (rounds_to held (suc n)) (prices_after made_terms held n)
    (listing (λ j. eligibility_after made_terms held j n) 12) (listing (held (suc n)) 12) no_lists no_lists)
unfolding asked_for rounds_to
stop-goes held n within =
    let asks : List ℕ = asked made_terms (listing (held (suc n)) 12) in
    let within_now : is_within asks made_terms.supply ≡ true = within in
    let e : suc n - 1 ≡ n = omega arith in
    goes-one (asked_for held n) Close (λ s. s ≡ sealed_state (listing (round_of made_terms held) (suc n)) (prices_after made_terms held n)
    (listing (λ j. eligibility_after made_terms held j n) 12) (listing (held (suc n)) 12) no_lists no_lists)
    (no_excess-ok (is_within asks made_terms.supply) (suc (length (listing (round_of made_terms held) n))) (prices_after made_terms held (suc n)) within_now)
    (cond-true (is_within asks made_terms.supply) (clock_stopped (asked_for held n)) (next_round (asked_for held n)) within_now ∙ (rw e refl))

-- the last round
pub last_round-goes : (held : ℕ → ℕ → List ℕ) (n : ℕ) → ((k : ℕ) → 1 ≤ k → k ≤ 12 → MayBid (eligibility_after made_terms held k n) (held (suc n) k))
    → ((k : ℕ) → 4 < k → held (suc n) k ≡ no_lots made_terms)
    → is_within (demand made_terms held (suc n)) made_terms.supply ≡ true
    → Goes (posted held n) (listing (λ k. Bid k (held (suc n) k)) 4 ++ Close ∷ [])
    (λ s. s ≡ sealed_state (rounds_to held (suc n)) (prices_after made_terms held n) (listing (λ j. eligibility_after made_terms held j n) 12)
    (listing (held (suc n)) 12) no_lists no_lists)
unfolding posted asked_for
last_round-goes held n may others within =
    let To : DeskState → Type 0 = λ s. s ≡ sealed_state (rounds_to held (suc n)) (prices_after made_terms held n)
    (listing (λ j. eligibility_after made_terms held j n) 12) (listing (held (suc n)) 12) no_lists no_lists in
    goes-on (posted held n) (listing (λ k. Bid k (held (suc n) k)) 4) (Close ∷ []) (λ s. s ≡ asked_for held n) To
    (four-bids (listing (round_of made_terms held) n) (prices_after made_terms held n) (λ j. eligibility_after made_terms held j n) (held (suc n)) may others)
    (λ s is. subst (λ (s : DeskState). Goes s (Close ∷ []) To) (sym is) (stop-goes held n within))
