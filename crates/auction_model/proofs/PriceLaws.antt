-- Winning choices and Vickrey prices are there and are one, the core isn't empty, and there is at most one core outcome.
use Rattle.std.specs.Prelude.{Bool, IsFalse, IsTrue, List, [], cond, false, get_or, length, not, pos, refl, replicate, suc, take, true, zero, ℕ, ℤ}
use Rattle.std.specs.Prelude.{◌*ℤ◌, ◌++◌, ◌+ℤ◌, ◌+◌, ◌-ℤ◌, ◌-◌, ◌<ℤ◌, ◌<◌, ◌==◌, ◌∷◌, ◌≡◌, ◌≤ℤ◌, ◌≤◌, ◌⊎◌}
use Rattle.std.proofs.Common.{inl, inr, sym, ◌∙◌, ap, arith, subst}
use Rattle.std.proofs.lemmas.Bool.{false≢true, and_parts, and_from, not_from_false, not_from_true, eq-eqb, ne_eqb, cases_Bool, cases_lt}
use Rattle.std.proofs.lemmas.List.{get_or-replicate, get_or_past, length-replicate, take_more, take_all, length-take}
use Rattle.std.proofs.lemmas.Int.{ints, by_lt_z}
use Rattle.auction_model.specs.Market.{Market, sum_after, value_of, number_of, worth_in, uses}
use Rattle.auction_model.specs.Greatest.{IsGreatestValue, IsWinning}
use Rattle.auction_model.specs.Lawful.{IsMarket}
use Rattle.auction_model.specs.Lowered.{of_bidder}
use Rattle.auction_model.specs.Prices.{AreVickreyPrices, IsBlocking, IsCoreOutcome, IsCorePoint, IsUnblocked, IsVickreyPrice, Point, SamePoint}
use Rattle.auction_model.specs.Prices.{allowed_without, everyone, offer, paid, square_distance, sum_over}
use Rattle.auction_model.proofs.OrderLaws.{one-first}
use Rattle.auction_model.proofs.FirstLaws.{HasFirst, has-first}

-- the choice of nobody uses nobody
nobody : (n j : ℕ) → uses (replicate n 0) j ≡ false
nobody n j = not_from_true (number_of (replicate n 0) j == 0) (eq-eqb (number_of (replicate n 0) j) 0 none)
  where
    none : number_of (replicate n 0) j ≡ 0
    none = elim (cases_lt (j - 1) n) [
      | inl inside ↦ get_or-replicate n (j - 1) 0 0 inside
      | inr past ↦ get_or_past (replicate n 0) (j - 1) 0 (omega (arith, past, length-replicate {A = ℕ} n 0))
    ]

module _ (m : Market) (law : IsMarket m) where
  bounded : (c : List ℕ) → IsTrue (m.allowed c) → (length c ≡ m.bidders) × ((i : ℕ) → i < m.bidders → get_or c i 0 ≤ m.bids (suc i))
  bounded c t = (
    law.lengths c t,
    λ i h. let low : get_or c (suc i - 1) 0 ≤ m.bids (suc i) = law.numbers c (suc i) t (omega arith) (omega (arith, h)) in
        let same : suc i - 1 ≡ i = omega arith in rw same at low,
  )

  -- a lawful market has a winning choice
  pub winning-exists : (c : List ℕ) × IsWinning m c
  winning-exists = by (has-first m.bidders (λ i. m.bids (suc i)) m.allowed (value_of m) bounded)
    where
      by : HasFirst m.allowed (value_of m) → (c : List ℕ) × IsWinning m c
      by (inl found) = found
      by (inr none) = absurd (none (replicate m.bidders 0) law.empty)

  -- two winning choices are the same
  pub winning-one : (c d : List ℕ) → IsWinning m c → IsWinning m d → c ≡ d
  winning-one c d g h = one-first m.allowed (value_of m) c d (law.lengths c g.passed ∙ sym (law.lengths d h.passed)) g h

  -- the greatest value without a bidder
  greatest-without : (j : ℕ) → (most : ℤ) × IsGreatestValue (allowed_without m j) (value_of m) most
  greatest-without j = by (has-first m.bidders (λ i. m.bids (suc i)) (allowed_without m j) (value_of m)
      (λ c t. bounded c (and_parts (m.allowed c) (not (uses c j)) t).0))
    where
      by : HasFirst (allowed_without m j) (value_of m) → (most : ℤ) × IsGreatestValue (allowed_without m j) (value_of m) most
      by (inl found) = (value_of m found.0, record { reached = (found.0, found.1.passed, refl); bound = found.1.greatest })
      by (inr none) = absurd (none (replicate m.bidders 0) (and_from (m.allowed (replicate m.bidders 0)) (not (uses (replicate m.bidders 0) j)) law.empty
          (not_from_false (uses (replicate m.bidders 0) j) (nobody m.bidders j))))

  vickrey-price : (z : List ℕ) (j : ℕ) → (v : ℤ) × IsVickreyPrice m z j v
  vickrey-price z j = by (cases_Bool (uses z j))
    where
      by : (uses z j ≡ true) ⊎ (uses z j ≡ false) → (v : ℤ) × IsVickreyPrice m z j v
      by (inr loses) = (pos 0, ((λ wins. absurd (false≢true (sym loses ∙ wins))), (λ _. refl)))
      by (inl wins) =
          let g = greatest-without j in
          let v = (g.0 -ℤ value_of m z) +ℤ worth_in m z j in
          let is : g.0 ≡ (v +ℤ value_of m z) -ℤ worth_in m z j = omega (arith, ints) in
          (v, ((λ _. subst (IsGreatestValue (allowed_without m j) (value_of m)) is g.1), (λ loses. absurd (false≢true (sym loses ∙ wins)))))

  -- at each choice all bidders have Vickrey prices
  pub vickrey-exist : (z : List ℕ) → (v : ℕ → ℤ) × AreVickreyPrices m z v
  vickrey-exist z = ((λ j. (vickrey-price z j).0), (λ j some inside. (vickrey-price z j).1))

-- a bidder has at most one Vickrey price at a choice
pub vickrey-one : (m : Market) (z : List ℕ) (j : ℕ) (v w : ℤ) → IsVickreyPrice m z j v → IsVickreyPrice m z j w → v ≡ w
vickrey-one m z j v w p q = by (cases_Bool (uses z j))
  where
    most : (a b : ℤ) → IsGreatestValue (allowed_without m j) (value_of m) a → IsGreatestValue (allowed_without m j) (value_of m) b → a ≤ℤ b
    most a b g h = let low = h.bound g.reached.0 g.reached.1 in let is = g.reached.2 in omega (arith, ints)

    by : (uses z j ≡ true) ⊎ (uses z j ≡ false) → v ≡ w
    by (inl u) = let a = most _ _ (p.0 u) (q.0 u) in let b = most _ _ (q.0 u) (p.0 u) in omega (arith, ints)
    by (inr u) = p.1 u ∙ sym (q.1 u)

-- sums over bidders

-- two sums over the same bidders are equal if each bidder's numbers are
pub over-same : (s : ℕ → Bool) (f g : ℕ → ℤ) (n : ℕ) → ((j : ℕ) → 0 < j → j ≤ n → f j ≡ g j) → sum_over s f n ≡ sum_over s g n
over-same s f g zero same = refl
over-same s f g (suc n) same =
    let rest = over-same s f g n (λ j some low. same j some (omega (arith, low))) in
    let own : f (suc n) ≡ g (suc n) = same (suc n) (omega arith) (omega arith) in
    rw (rest, own) refl

over-zero : (s : ℕ → Bool) (n : ℕ) → sum_over s (λ j. pos 0) n ≡ pos 0
over-zero s zero = refl
over-zero s (suc n) = let rest = over-zero s n in rw rest (by (s (suc n)))
  where
    by : (b : Bool) → pos 0 +ℤ cond b (pos 0) (pos 0) ≡ pos 0
    by true = refl
    by false = refl

sum-more : (counts : ℕ → ℕ → ℤ) (k : ℕ) (c : List ℕ) (i : ℕ) → sum_after counts k (c ++ i ∷ []) ≡ sum_after counts k c +ℤ counts (suc (k + length c)) i
sum-more counts k [] i = let e : k + 0 ≡ k = omega arith in rw e (turned (counts (suc k) i))
  where
    turned : (x : ℤ) → x +ℤ pos 0 ≡ pos 0 +ℤ x
    turned x = omega (arith, ints)
sum-more counts k (h ∷ c) i =
    let rest = sum-more counts (suc k) c i in
    let e : suc k + length c ≡ k + length (h ∷ c) = omega arith in
    let moved : sum_after counts (suc k) (c ++ i ∷ []) ≡ sum_after counts (suc k) c +ℤ counts (suc (k + length (h ∷ c))) i = rw e at rest in
    omega (arith, ints, moved)

-- what the bidders count by the choice, bidder by bidder
value-over : (counts : ℕ → ℕ → ℤ) (z : List ℕ) (n : ℕ) → n ≤ length z → sum_over everyone (λ j. counts j (number_of z j)) n ≡ sum_after counts 0 (take n z)
value-over counts z zero h = refl
value-over counts z (suc n) h =
    let rest = value-over counts z n (omega (arith, h)) in
    let up : n + 1 ≡ suc n = omega arith in
    let more : take (suc n) z ≡ take n z ++ get_or z n 0 ∷ [] = rw up at (take_more z n 0 (omega (arith, h))) in
    let long : 0 + length (take n z) ≡ n = omega (arith, length-take n z, h) in
    let last = sum-more counts 0 (take n z) (get_or z n 0) in
    let same : suc n - 1 ≡ n = omega arith in
    rw (more, last, long, same, rest) refl

-- what the winners win with, as payments

abbrev won : Market → ℕ → List ℕ → List ℤ
won m k [] = []
won m k (i ∷ z) = m.worth (suc k) i ∷ won m (suc k) z

won-length : (m : Market) (k : ℕ) (z : List ℕ) → length (won m k z) ≡ length z
won-length m k [] = refl
won-length m k (i ∷ z) = ap suc (won-length m (suc k) z)

won-at : (m : Market) (k : ℕ) (z : List ℕ) (i : ℕ) → i < length z → get_or (won m k z) i (pos 0) ≡ m.worth (suc k + i) (get_or z i 0)
won-at m k [] i h = absurd (omega (arith, h))
won-at m k (x ∷ z) zero h = let e : suc k + 0 ≡ suc k = omega arith in rw e refl
won-at m k (x ∷ z) (suc i) h = let e : suc k + suc i ≡ suc (suc k) + i = omega arith in rw e (won-at m (suc k) z i (omega (arith, h)))

module _ (m : Market) (law : IsMarket m) (z : List ℕ) (g : IsWinning m z) where
  abbrev all_bids : Point
  all_bids = record { den = pos 1; at = won m 0 z }

  paid-own : (j : ℕ) → 0 < j → j ≤ m.bidders → of_bidder (won m 0 z) j ≡ worth_in m z j
  paid-own j some inside =
      let here = won-at m 0 z (j - 1) (omega (arith, some, inside, law.lengths z g.passed)) in
      let same : suc 0 + (j - 1) ≡ j = omega arith in
      rw same at here

  paid-value : paid m all_bids ≡ value_of m z
  paid-value =
      let long = law.lengths z g.passed in
      over-same everyone (of_bidder (won m 0 z)) (λ j. m.worth j (number_of z j)) m.bidders paid-own
      ∙ value-over m.worth z m.bidders (omega (arith, long))
      ∙ ap (sum_after m.worth 0) (take_all m.bidders z (omega (arith, long)))

  unblocked : IsUnblocked m z all_bids
  unblocked k f allowed within =
      let none : sum_over k (λ j. (pos 1 *ℤ worth_in m z j) -ℤ of_bidder (won m 0 z) j) m.bidders ≡ pos 0 =
      over-same k (λ j. (pos 1 *ℤ worth_in m z j) -ℤ of_bidder (won m 0 z) j) (λ j. pos 0) m.bidders
      (λ j some inside. let own = paid-own j some inside in omega (arith, ints, own)) ∙ over-zero k m.bidders in
      let most : value_of m f ≤ℤ value_of m z = g.greatest f allowed in
      let all = paid-value in
      omega (arith, ints, none, most, all)

  -- paying all bids is in the core
  pub core-some : (p : Point) × IsCorePoint m z p
  core-some = (
    all_bids,
    record {
      den_positive = omega (arith, ints);
      bidders = won-length m 0 z ∙ law.lengths z g.passed;
      winners = λ j some inside wins. let own = paid-own j some inside in let least : pos 0 ≤ℤ worth_in m z j = law.not_negative z j g.passed some inside in
          (omega (arith, ints, own, least), omega (arith, ints, own));
      losers = λ j some inside loses. paid-own j some inside ∙ nothing j loses;
      unblocked = unblocked;
    },
  )
    where
      nothing : (j : ℕ) → IsFalse (uses z j) → worth_in m z j ≡ pos 0
      nothing j loses = by (number_of z j) loses
        where
          by : (i : ℕ) → IsFalse (not (i == 0)) → m.worth j i ≡ pos 0
          by zero none = law.none j
          by (suc i) none = absurd (false≢true (sym none ∙ not_from_false (suc i == 0) (ne_eqb (suc i) 0 (λ e. omega (arith, e)))))

-- two core outcomes are the same point
module _ (m : Market) (law : IsMarket m) (w : ℕ → ℕ) (z : List ℕ) (p q : Point) (a : IsCoreOutcome m w z p) (b : IsCoreOutcome m w z q) where
  not_apart : (SamePoint m p q → ⊥) → ⊥
  not_apart apart =
      let v = vickrey-exist m law z in
      let low : (q.den *ℤ paid m p) ≤ℤ (p.den *ℤ paid m q) = a.least q b.core in
      let high : (p.den *ℤ paid m q) ≤ℤ (q.den *ℤ paid m p) = b.least p a.core in
      let sums : q.den *ℤ paid m p ≡ p.den *ℤ paid m q = omega (arith, ints, low, high) in
      let nearer : ((q.den *ℤ q.den) *ℤ square_distance m w v.0 p) <ℤ ((p.den *ℤ p.den) *ℤ square_distance m w v.0 q) = a.nearest v.0 v.1 q b.core sums apart in
      let farther : ((p.den *ℤ p.den) *ℤ square_distance m w v.0 q) <ℤ ((q.den *ℤ q.den) *ℤ square_distance m w v.0 p) =
      b.nearest v.0 v.1 p a.core (sym sums) (λ same. apart (λ j some inside. sym (same j some inside))) in
      strict _ _ nearer farther
    where
      strict : (x y : ℤ) → x <ℤ y → y <ℤ x → ⊥
      strict x y h k = omega (arith, ints, h, k)

  -- both outcomes ask the same payment of each bidder
  pub outcome-one : SamePoint m p q
  outcome-one j some inside =
      by_lt_z (q.den *ℤ of_bidder p.at j) (p.den *ℤ of_bidder q.at j)
      (λ less. absurd (not_apart (λ same. strict _ _ less (same j some inside))))
      (λ most. by_lt_z (p.den *ℤ of_bidder q.at j) (q.den *ℤ of_bidder p.at j) (λ less. absurd
      (not_apart (λ same. strict _ _ less (sym (same j some inside))))) (λ least. even _ _ most least))
    where
      strict : (x y : ℤ) → x <ℤ y → x ≡ y → ⊥
      strict x y h e = omega (arith, ints, h, e)

      even : (x y : ℤ) → y ≤ℤ x → x ≤ℤ y → x ≡ y
      even x y h k = omega (arith, ints, h, k)

-- a point is unblocked exactly if no coalition blocks it with any choice
pub blocking-none : (m : Market) (z : List ℕ) (p : Point) → IsUnblocked m z p → (k : ℕ → Bool) (f : List ℕ) → IsBlocking m z p k f → ⊥
blocking-none m z p free k f blocks = let most = free k f blocks.allowed blocks.within in let more = blocks.more in strict _ _ more most
  where
    strict : (x y : ℤ) → x <ℤ y → y ≤ℤ x → ⊥
    strict x y h k = omega (arith, ints, h, k)

-- if no coalition blocks with any choice, none offers more than all pay
pub none-blocking : (m : Market) (z : List ℕ) (p : Point) → ((k : ℕ → Bool) (f : List ℕ) → IsBlocking m z p k f → ⊥) → IsUnblocked m z p
none-blocking m z p none k f allowed within =
    by_lt_z (paid m p) (offer m z p k f) (λ more. absurd (none k f (record { allowed = allowed; within = within; more = more }))) (λ most. most)
