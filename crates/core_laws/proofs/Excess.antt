-- The greatest lowered sum of a market is the greatest excess, and decides whether a coalition blocks.
use Rattle.std.specs.Prelude.{Bool, IsFalse, IsTrue, List, cond, false, int_le, not, pos, refl, suc, true, zero, ℕ, ℤ, ◌&&◌, ◌*ℤ◌, ◌+ℤ◌, ◌-ℤ◌, ◌<ℤ◌}
use Rattle.std.specs.Prelude.{◌<◌, ◌==◌, ◌≡◌, ◌≤ℤ◌, ◌≤◌}
use Rattle.std.proofs.Common.{sym, ◌∙◌, ap, arith, subst, inl, inr}
use Rattle.std.proofs.lemmas.Int.{ints}
use Rattle.std.proofs.lemmas.Bool.{ne_eqb, and_parts, cases_Bool}
use Rattle.auction_model.specs.Market.{Market, value_of, sum_after, number_of, worth_in, uses}
use Rattle.auction_model.specs.Greatest.{IsFirstGreatest, IsWinning}
use Rattle.auction_model.specs.Lawful.{IsMarket}
use Rattle.auction_model.specs.Lowered.{of_bidder, lowered}
use Rattle.auction_model.specs.Prices.{Point, sum_over, everyone, paid, offer, IsUnblocked}
use Rattle.auction_model.specs.Blocks.{IsIdleSet, excess_of, IsTakenBlock}
use Rattle.wide_num.specs.Sums.{total}
use Rattle.wide_num.proofs.Sums.{total-add, total-same, total-scale, total-zero}
use Rattle.projection_laws.proofs.Sums.{total-sub, total-le}
use Rattle.core_laws.specs.Winners.{idle_row}
use Rattle.core_laws.proofs.Sums.{over-is, choice-is, total-lt}
use Rattle.core_laws.proofs.Terms.{term, term_most, term_reached, term_own, term_short}

-- what a point of a turn is: losers pay 0
pub record IsPaid (m : Market) (z : List ℕ) (p : Point) (surplus : List ℤ) : Type 0 where
  pub losers : (k : ℕ) → k < m.bidders → IsFalse (uses z (suc k)) → of_bidder p.at (suc k) ≡ pos 0
  pub surpluses : (k : ℕ) → k < m.bidders → of_bidder surplus (suc k) ≡ (p.den *ℤ worth_in m z (suc k)) -ℤ of_bidder p.at (suc k)

-- the terms of a choice and of a set
abbrev pub terms : Market → List ℕ → Point → List ℕ → (ℕ → Bool) → ℕ → ℤ
terms m z p f s k = term p.den (worth_in m f (suc k)) (worth_in m z (suc k)) (of_bidder p.at (suc k)) (s (suc k))

abbrev pub low_terms : Market → Point → List ℤ → List ℕ → ℕ → ℤ
low_terms m p surplus f k = lowered p.den m.worth surplus (suc k) (number_of f (suc k)) -ℤ of_bidder p.at (suc k)

-- a sum over all bidders is a total over the numbers from 0
pub everyone-is : (f : ℕ → ℤ) (n : ℕ) → sum_over everyone f n ≡ total n (λ k. f (suc k))
everyone-is f n = over-is everyone f n

cond_split : (b : Bool) (x y : ℤ) → cond b x y ≡ cond b x (pos 0) +ℤ cond (not b) y (pos 0)
cond_split true x y = omega (arith, ints)
cond_split false x y = omega (arith, ints)

cond_gap : (b : Bool) (x a : ℤ) → cond b (x -ℤ a) (pos 0) +ℤ a ≡ cond b x a
cond_gap true x a = omega (arith, ints)
cond_gap false x a = omega (arith, ints)

cond_turn : (b : Bool) (x y : ℤ) → cond (not b) x (pos 0) +ℤ cond b y (pos 0) ≡ cond (not b) x y
cond_turn true x y = omega (arith, ints)
cond_turn false x y = omega (arith, ints)

module _ (m : Market) (lawful : IsMarket m) (z : List ℕ) (p : Point) where
  worths-are : (f : List ℕ) → IsTrue (m.allowed f) → p.den *ℤ value_of m f ≡ total m.bidders (λ k. p.den *ℤ worth_in m f (suc k))
  worths-are f t =
      ap (λ (x : ℤ). p.den *ℤ x) (choice-is m.worth f ∙ ap (λ n. total n (λ k. worth_in m f (suc k))) (lawful.lengths f t))
      ∙ sym (total-scale m.bidders p.den (λ k. worth_in m f (suc k)))

  terms-are : (f : List ℕ) → IsTrue (m.allowed f) → (s : ℕ → Bool)
      → total m.bidders (terms m z p f s) ≡ p.den *ℤ value_of m f -ℤ total m.bidders
      (λ k. cond (s (suc k)) (p.den *ℤ worth_in m z (suc k)) (of_bidder p.at (suc k)))
  terms-are f t s =
      let a = total-sub m.bidders (λ k. p.den *ℤ worth_in m f (suc k)) (λ k. cond (s (suc k)) (p.den *ℤ worth_in m z (suc k)) (of_bidder p.at (suc k))) in
      let w = worths-are f t in
      omega (arith, ints)

  -- what a coalition offers with an allowed choice beyond all payments is the sum of the terms
  pub offer-is : (f : List ℕ) → IsTrue (m.allowed f) → (s : ℕ → Bool) → offer m z p s f -ℤ paid m p ≡ total m.bidders (terms m z p f s)
  offer-is f t s =
      let a = terms-are f t s in
      let o = over-is s (λ j. (p.den *ℤ worth_in m z j) -ℤ of_bidder p.at j) m.bidders in
      let e = everyone-is (of_bidder p.at) m.bidders in
      let g = total-add m.bidders (λ k. cond (s (suc k)) ((p.den *ℤ worth_in m z (suc k)) -ℤ of_bidder p.at (suc k)) (pos 0)) (λ k. of_bidder p.at (suc k)) in
      let c = total-same m.bidders (λ k. cond (s (suc k)) ((p.den *ℤ worth_in m z (suc k)) -ℤ of_bidder p.at (suc k)) (pos 0) +ℤ of_bidder p.at (suc k))
      (λ k. cond (s (suc k)) (p.den *ℤ worth_in m z (suc k)) (of_bidder p.at (suc k)))
      (λ k lt. cond_gap (s (suc k)) (p.den *ℤ worth_in m z (suc k)) (of_bidder p.at (suc k))) in
      omega (arith, ints)

  -- the excess over a set is the sum of the terms for the coalition of all others
  pub excess-is : (f : List ℕ) → IsTrue (m.allowed f) → (s : ℕ → Bool) → excess_of m z p s f ≡ total m.bidders (terms m z p f (λ j. not (s j)))
  excess-is f t s =
      let a = terms-are f t (λ j. not (s j)) in
      let o = over-is (λ j. not (s j)) (λ j. p.den *ℤ worth_in m z j) m.bidders in
      let e = over-is s (of_bidder p.at) m.bidders in
      let g = total-add m.bidders (λ k. cond (not (s (suc k))) (p.den *ℤ worth_in m z (suc k)) (pos 0))
      (λ k. cond (s (suc k)) (of_bidder p.at (suc k)) (pos 0)) in
      let c = total-same m.bidders (λ k. cond (not (s (suc k))) (p.den *ℤ worth_in m z (suc k)) (pos 0) +ℤ cond (s (suc k)) (of_bidder p.at (suc k)) (pos 0))
      (λ k. cond (not (s (suc k))) (p.den *ℤ worth_in m z (suc k)) (of_bidder p.at (suc k)))
      (λ k lt. cond_turn (s (suc k)) (p.den *ℤ worth_in m z (suc k)) (of_bidder p.at (suc k))) in
      omega (arith, ints)

  module _ (surplus : List ℤ) (own : IsPaid m z p surplus) where
    low : List ℕ → ℤ
    low f = sum_after (lowered p.den m.worth surplus) 0 f

    -- the lowered sum of an allowed choice, less all payments, is the sum of its lowered terms
    pub low-is : (f : List ℕ) → IsTrue (m.allowed f) → sum_after (lowered p.den m.worth surplus) 0 f -ℤ paid m p ≡ total m.bidders (low_terms m p surplus f)
    low-is f t =
        let a = choice-is (lowered p.den m.worth surplus) f ∙ ap (λ n. total n (λ k. lowered p.den m.worth surplus (suc k) (number_of f (suc k))))
        (lawful.lengths f t) in
        let b = everyone-is (of_bidder p.at) m.bidders in
        let c = total-sub m.bidders (λ k. lowered p.den m.worth surplus (suc k) (number_of f (suc k))) (λ k. of_bidder p.at (suc k)) in
        omega (arith, ints)

    -- a coalition that has the used bidders offers no more than the lowered sum
    pub terms-most : (f : List ℕ) (s : ℕ → Bool) → ((k : ℕ) → k < m.bidders → IsTrue (uses f (suc k)) → IsTrue (s (suc k)))
        → total m.bidders (terms m z p f s) ≤ℤ total m.bidders (low_terms m p surplus f)
    terms-most f s u = total-le m.bidders (terms m z p f s) (low_terms m p surplus f)
        (λ k lt. term_most p.den m.worth surplus (suc k) (number_of f (suc k)) (worth_in m z (suc k)) (of_bidder p.at (suc k)) (s (suc k))
        (lawful.none (suc k)) (own.surpluses k lt) (u k lt))

    loser-none : (k : ℕ) → k < m.bidders → IsFalse (uses z (suc k)) → (worth_in m z (suc k) ≡ pos 0) × (of_bidder p.at (suc k) ≡ pos 0)
    loser-none k lt e = (unused (number_of z (suc k)) e, own.losers k lt e)
      where
        unused : (i : ℕ) → IsFalse (not (i == 0)) → m.worth (suc k) i ≡ pos 0
        unused zero q = lawful.none (suc k)
        unused (suc i) q = absurd (lie (sym (ap not (ne_eqb (suc i) 0 (omega arith))) ∙ q))
          where
            lie : true ≡ false → ⊥
            lie e = cc

    -- the coalition of all but the idle row offers just the lowered sum
    pub terms-reached : (f : List ℕ) → total m.bidders (terms m z p f (λ j. not (idle_row m z p f j))) ≡ total m.bidders (low_terms m p surplus f)
    terms-reached f = total-same m.bidders (terms m z p f (λ j. not (idle_row m z p f j))) (low_terms m p surplus f)
        (λ k lt. term_reached p.den m.worth surplus (suc k) (number_of f (suc k)) (worth_in m z (suc k)) (of_bidder p.at (suc k)) (uses z (suc k))
        (lawful.none (suc k)) (own.surpluses k lt) (loser-none k lt))

    -- the excess of a choice over its idle row is its lowered sum less all payments
    pub low-reached : (f : List ℕ) → IsTrue (m.allowed f) → excess_of m z p (idle_row m z p f) f ≡ sum_after (lowered p.den m.worth surplus) 0 f -ℤ paid m p
    low-reached f t = excess-is f t (idle_row m z p f) ∙ terms-reached f ∙ sym (low-is f t)

    -- over no set of winners that it doesn't use is the excess of a choice above its lowered sum less all payments
    pub low-most : (f : List ℕ) (s : ℕ → Bool) → IsTrue (m.allowed f) → IsIdleSet m z f s → excess_of m z p s f ≤ℤ
        (sum_after (lowered p.den m.worth surplus) 0 f -ℤ paid m p)
    low-most f s t idle =
        let e = excess-is f t s in
        let l = low-is f t in
        let h = terms-most f (λ j. not (s j)) (λ k lt u. not_member (s (suc k)) (uses z (suc k)) (uses f (suc k))
        (λ q. idle (suc k) (omega arith) (omega arith) q) u) in
        omega (arith, ints)
      where
        not_member : (s w u : Bool) → (s ≡ true → (w && not u) ≡ true) → u ≡ true → not s ≡ true
        not_member false w u h e = refl
        not_member true true true h e = absurd (let q : false ≡ true = h refl in lie q)
          where
            lie : false ≡ true → ⊥
            lie e = cc
        not_member true true false h e = absurd (lie e)
          where
            lie : false ≡ true → ⊥
            lie e = cc
        not_member true false u h e = absurd (let q : false ≡ true = h refl in lie q)
          where
            lie : false ≡ true → ⊥
            lie e = cc

    -- the idle row of a choice is a set of winners that the choice doesn't use
    pub row-idle : (f : List ℕ) → IsIdleSet m z f (idle_row m z p f)
    row-idle f j some inside e = both (uses z j) (not (uses f j)) (int_le (of_bidder p.at j) (p.den *ℤ worth_in m z j)) e
      where
        both : (w u l : Bool) → (w && (u && l)) ≡ true → (w && u) ≡ true
        both true true l e = refl
        both true false l e = e
        both false u l e = e

    -- no bidder that a choice uses is in its idle row
    pub row-outside : (f : List ℕ) (j : ℕ) → IsTrue (uses f j) → IsTrue (not (idle_row m z p f j))
    row-outside f j e = out (uses z j) (uses f j) (int_le (of_bidder p.at j) (p.den *ℤ worth_in m z j)) e
      where
        out : (w u l : Bool) → u ≡ true → not (w && (not u && l)) ≡ true
        out true true l e = refl
        out true false l e = absurd (lie e)
          where
            lie : false ≡ true → ⊥
            lie e = cc
        out false u l e = refl

    -- the lowered sum of the choice z itself is what all bidders pay
    pub winning-pays : IsTrue (m.allowed z) → sum_after (lowered p.den m.worth surplus) 0 z ≡ paid m p
    winning-pays t =
        let l = low-is z t in
        let s = total-zero m.bidders (low_terms m p surplus z) (λ k lt. term_own p.den m.worth surplus (suc k) (number_of z (suc k)) (of_bidder p.at (suc k))
        (lawful.none (suc k)) (own.surpluses k lt) (own.losers k lt)) in
        omega (arith, ints)

    module _ (f : List ℕ) (best : IsFirstGreatest m.allowed (sum_after (lowered p.den m.worth surplus) 0) f) where
      -- the first choice of greatest lowered sum, with its idle row, is the block of the turn
      pub taken : IsTakenBlock m z p f (idle_row m z p f) (sum_after (lowered p.den m.worth surplus) 0 f -ℤ paid m p)
      taken = record {
        greatest = λ s g t idle. let a = low-most g s t idle in let b = best.greatest g t in omega (arith, ints);
        allowed = best.passed;
        idle = row-idle f;
        reached = low-reached f best.passed;
        first = λ g s t idle e. let a = low-most g s t idle in let b = best.first g t e in omega (arith, ints);
        largest = λ s idle e j some inside member. largest s idle e j some inside member;
      }
        where
          short : (s : ℕ → Bool) → IsIdleSet m z f s → (k : ℕ) → k < m.bidders → IsTrue (s (suc k)) → idle_row m z p f (suc k) ≡ false
              → excess_of m z p s f <ℤ (sum_after (lowered p.den m.worth surplus) 0 f -ℤ paid m p)
          short s idle k lt member out =
              let t = best.passed in
              let e = excess-is f t s in
              let l = low-is f t in
              let both = and_parts (uses z (suc k)) (not (uses f (suc k))) (idle (suc k) (omega arith) (omega arith) member) in
              let unused : uses f (suc k) ≡ false = not_true (uses f (suc k)) both.1 in
              let above : int_le (of_bidder p.at (suc k)) (p.den *ℤ worth_in m z (suc k)) ≡ false = last (uses z (suc k)) (uses f (suc k))
              (int_le (of_bidder p.at (suc k)) (p.den *ℤ worth_in m z (suc k))) both.0 unused out in
              let less = term_short p.den m.worth surplus (suc k) (number_of f (suc k)) (worth_in m z (suc k)) (of_bidder p.at (suc k)) (lawful.none (suc k))
              (own.surpluses k lt) unused above in
              let h = total-lt m.bidders (terms m z p f (λ j. not (s j))) (low_terms m p surplus f)
              (λ i li. term_most p.den m.worth surplus (suc i) (number_of f (suc i)) (worth_in m z (suc i)) (of_bidder p.at (suc i)) (not (s (suc i)))
              (lawful.none (suc i)) (own.surpluses i li) (λ u. not_member (s (suc i)) (uses z (suc i)) (uses f (suc i))
              (λ q. idle (suc i) (omega arith) (omega arith) q) u))
              k lt (subst (λ b. term p.den (worth_in m f (suc k)) (worth_in m z (suc k)) (of_bidder p.at (suc k)) b <ℤ low_terms m p surplus f k)
              (sym (ap not member)) less) in
              omega (arith, ints)
            where
              not_true : (u : Bool) → not u ≡ true → u ≡ false
              not_true true e = sym e
              not_true false e = refl

              last : (w u l : Bool) → w ≡ true → u ≡ false → (w && (not u && l)) ≡ false → l ≡ false
              last w u l a b e = sym (ap (λ x. x && (not u && l)) a ∙ ap (λ x. not x && l) b) ∙ e

              not_member : (s w u : Bool) → (s ≡ true → (w && not u) ≡ true) → u ≡ true → not s ≡ true
              not_member s w u h e = grind (arith)

          largest : (s : ℕ → Bool) → IsIdleSet m z f s → excess_of m z p s f ≡ sum_after (lowered p.den m.worth surplus) 0 f -ℤ paid m p → (j : ℕ) → 0 < j
              → j ≤ m.bidders → IsTrue (s j) → IsTrue (idle_row m z p f j)
          largest s idle e zero some inside member = absurd (omega arith)
          largest s idle e (suc k) some inside member =
              elim (cases_Bool (idle_row m z p f (suc k))) [
                | inl y ↦ y
                | inr n ↦
                    (let h = short s idle k (omega arith) member n in absurd (omega (arith, ints)))
              ]

      -- if the greatest lowered sum is at most all payments, no coalition blocks the point
      pub free-unblocked : sum_after (lowered p.den m.worth surplus) 0 f ≤ℤ paid m p → IsUnblocked m z p
      free-unblocked le s g t only =
          let o = offer-is g t s in
          let l = low-is g t in
          let b = best.greatest g t in
          let h = terms-most g s (λ k lt u. only (suc k) (omega arith) (omega arith) u) in
          omega (arith, ints)

      -- if no coalition blocks the point, the greatest lowered sum is at most all payments
      pub unblocked-free : IsUnblocked m z p → sum_after (lowered p.den m.worth surplus) 0 f ≤ℤ paid m p
      unblocked-free free =
          let t = best.passed in
          let o = offer-is f t (λ j. not (idle_row m z p f j)) in
          let r = terms-reached f in
          let l = low-is f t in
          let h = free (λ j. not (idle_row m z p f j)) f t (λ j some inside u. row-outside f j u) in
          omega (arith, ints)

      -- the excess is never below 0
      pub not-below : IsWinning m z → paid m p ≤ℤ sum_after (lowered p.den m.worth surplus) 0 f
      not-below win = let a = best.greatest z win.passed in let b = winning-pays win.passed in omega (arith, ints)
