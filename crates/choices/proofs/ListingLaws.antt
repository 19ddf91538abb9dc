-- Going through the numbers of a bidder, from the last in the order of ties to the first, finds the first of the greatest choices.
use Rattle.std.specs.Prelude.{Bool, IsTrue, List, [], false, nat_le, nat_lt, refl, suc, true, zero, ℕ, ℤ, ◌&&◌, ◌+◌, ◌-◌, ◌<ℤ◌, ◌<◌, ◌==◌, ◌||◌, ◌∷◌}
use Rattle.std.specs.Prelude.{◌≡◌, ◌≤ℤ◌, ◌≤◌, ◌⊎◌}
use Rattle.std.proofs.Common.{inl, inr, sym, ◌∙◌, arith}
use Rattle.std.proofs.lemmas.Bool.{false≢true, and_parts, and_from, or_cases, or_left, or_right, leb-true, le-leb, ltb-true, lt-ltb, eqb-true, eq-eqb, cases_eq}
use Rattle.std.proofs.lemmas.Int.{ints}
use Rattle.auction_model.specs.Package.{is_within, less}
use Rattle.auction_model.specs.Market.{is_earlier, sum_after}
use Rattle.auction_model.specs.Greatest.{IsFirstGreatest}
use Rattle.auction_model.specs.Menu.{Menu, fits_after}
use Rattle.auction_model.proofs.MenuLaws.{fits-cons}
use Rattle.auction_model.proofs.PackageLaws.{less-empty}
use Rattle.auction_model.proofs.OrderLaws.{before-greater, before-none, before-not_both, before-self, earlier-says}

-- a choice of the bidders after k that fits, whose first number is 0 or above i
abbrev pub fits_past : Menu → ℕ → List ℕ → ℕ → List ℕ → Bool
fits_past m k left i [] = false
fits_past m k left i (h ∷ c) = ((h == 0) || nat_lt i h) && fits_after m k left (h ∷ c)

-- the first of the greatest of these
abbrev pub IsBestPast : Menu → (ℕ → ℕ → ℤ) → ℕ → List ℕ → ℕ → List ℕ → Type 0
IsBestPast m counts k left i c = IsFirstGreatest (fits_past m k left i) (sum_after counts k) c

-- what a choice that fits says of its first number and of the rest
record Fits (m : Menu) (k : ℕ) (left : List ℕ) (h : ℕ) (c : List ℕ) : Type 0 where
  pub known : h ≤ m.bids (suc k)
  pub own : IsTrue (is_within (m.lots (suc k) h) left)
  pub rest : IsTrue (fits_after m (suc k) (less left (m.lots (suc k) h)) c)

module _ (m : Menu) (k : ℕ) (left : List ℕ) (h : ℕ) (c : List ℕ) where
  fits-says : IsTrue (fits_after m k left (h ∷ c)) → Fits m k left h c
  fits-says t =
      let rest = fits_after m (suc k) (less left (m.lots (suc k) h)) c in
      let within = is_within (m.lots (suc k) h) left in
      let p = and_parts (nat_le h (m.bids (suc k))) (within && rest) (sym (fits-cons m k left h c) ∙ t) in
      let q = and_parts within rest p.1 in
      record { known = leb-true h (m.bids (suc k)) p.0; own = q.0; rest = q.1 }

  fits-from : Fits m k left h c → IsTrue (fits_after m k left (h ∷ c))
  fits-from p =
      let rest = fits_after m (suc k) (less left (m.lots (suc k) h)) c in
      let within = is_within (m.lots (suc k) h) left in
      fits-cons m k left h c ∙ and_from (nat_le h (m.bids (suc k))) (within && rest) (le-leb h (m.bids (suc k)) p.known) (and_from within rest p.own p.rest)

  past-says : (i : ℕ) → IsTrue (fits_past m k left i (h ∷ c)) → ((h ≡ 0) ⊎ (i < h)) × Fits m k left h c
  past-says i t =
      let p = and_parts ((h == 0) || nat_lt i h) (fits_after m k left (h ∷ c)) t in (
        elim (or_cases (h == 0) (nat_lt i h) p.0) [ inl none ↦ inl (eqb-true h 0 none) | inr above ↦ inr (ltb-true i h above) ],
        fits-says p.1,
      )

  past-from : (i : ℕ) → (h ≡ 0) ⊎ (i < h) → Fits m k left h c → IsTrue (fits_past m k left i (h ∷ c))
  past-from i (inl none) p = and_from ((h == 0) || nat_lt i h) (fits_after m k left (h ∷ c)) (or_left (h == 0) (nat_lt i h) (eq-eqb h 0 none)) (fits-from p)
  past-from i (inr above) p = and_from ((h == 0) || nat_lt i h) (fits_after m k left (h ∷ c)) (or_right (h == 0) (nat_lt i h) (lt-ltb i h above)) (fits-from p)

module _ (m : Menu) (counts : ℕ → ℕ → ℤ) (k : ℕ) (left : List ℕ) where
  -- number 0 is the last
  pub past-none : (r : List ℕ) → m.lots (suc k) 0 ≡ [] → IsFirstGreatest (fits_after m (suc k) left) (sum_after counts (suc k)) r
      → IsBestPast m counts k left (m.bids (suc k)) (0 ∷ r)
  past-none r empty g = record {
    passed = past-from m k left 0 r (m.bids (suc k)) (inl refl) (record {
      known = omega arith;
      own = rw empty refl;
      rest = rw (empty, less-empty) g.passed;
    });
    greatest = greatest;
    first = first;
  }
    where
      none : (h : ℕ) → (h ≡ 0) ⊎ (m.bids (suc k) < h) → h ≤ m.bids (suc k) → h ≡ 0
      none h (inl is) low = is
      none h (inr above) low = absurd (omega (arith, above, low))

      rest : (h : ℕ) (d : List ℕ) → h ≡ 0 → Fits m k left h d → IsTrue (fits_after m (suc k) left d)
      rest h d is p = rw (is, empty, less-empty) at p.rest

      greatest : (d : List ℕ) → IsTrue (fits_past m k left (m.bids (suc k)) d) → sum_after counts k d ≤ℤ sum_after counts k (0 ∷ r)
      greatest [] t = absurd (false≢true t)
      greatest (h ∷ d) t =
          let p = past-says m k left h d (m.bids (suc k)) t in
          let is = none h p.0 p.1.known in
          let low : sum_after counts (suc k) d ≤ℤ sum_after counts (suc k) r = g.greatest d (rest h d is p.1) in
          rw is (omega (arith, ints, low))

      first : (d : List ℕ) → IsTrue (fits_past m k left (m.bids (suc k)) d) → IsTrue (is_earlier d (0 ∷ r)) → sum_after counts k d <ℤ sum_after counts k (0 ∷ r)
      first [] t earlier = absurd (false≢true t)
      first (h ∷ d) t earlier =
          let p = past-says m k left h d (m.bids (suc k)) t in
          let is = none h p.0 p.1.known in
          elim (earlier-says h 0 d r earlier) [
            | inl before ↦ absurd (before-self 0 (rw is at before))
            | inr same ↦
                let low : sum_after counts (suc k) d <ℤ sum_after counts (suc k) r = g.first d (rest h d is p.1) same.1 in
                rw is (omega (arith, ints, low))
          ]

  -- all numbers but i + 1 are past i + 1 if they are past i
  past-other : (i h : ℕ) (c : List ℕ) → (h ≡ suc i → ⊥) → IsTrue (fits_past m k left i (h ∷ c)) → IsTrue (fits_past m k left (suc i) (h ∷ c))
  past-other i h c other t = let p = past-says m k left h c i t in past-from m k left h c (suc i) (above p.0) p.1
    where
      above : (h ≡ 0) ⊎ (i < h) → (h ≡ 0) ⊎ (suc i < h)
      above (inl none) = inl none
      above (inr high) = inr (omega (arith, high, other))

  past-more : (i : ℕ) (c : List ℕ) → IsTrue (fits_past m k left (suc i) c) → IsTrue (fits_past m k left i c)
  past-more i [] t = absurd (false≢true t)
  past-more i (h ∷ c) t = let p = past-says m k left h c (suc i) t in past-from m k left h c i (low p.0) p.1
    where
      low : (h ≡ 0) ⊎ (suc i < h) → (h ≡ 0) ⊎ (i < h)
      low (inl none) = inl none
      low (inr high) = inr (omega (arith, high))

  -- a number past i + 1 isn't before i + 1
  past-later : (i h : ℕ) (c d : List ℕ) → (h ≡ 0) ⊎ (suc i < h) → IsTrue (is_earlier (h ∷ d) (suc i ∷ c)) → ⊥
  past-later i h c d (inl none) earlier =
      elim (earlier-says h (suc i) d c earlier) [
        | inl before ↦ before-not_both (suc i) 0 (before-none i) (rw none at before)
        | inr same ↦ omega (arith, none, same.0)
      ]
  past-later i zero c d (inr high) earlier = omega (arith, high)
  past-later i (suc h) c d (inr high) earlier =
      elim (earlier-says (suc h) (suc i) d c earlier) [
        | inl before ↦ before-not_both (suc i) (suc h) (before-greater i h (omega (arith, high))) before
        | inr same ↦ omega (arith, high, same.0)
      ]

  -- the package of bid i + 1 doesn't fit
  pub past-skips : (i : ℕ) (c : List ℕ) → is_within (m.lots (suc k) (suc i)) left ≡ false → IsBestPast m counts k left (suc i) c
      → IsBestPast m counts k left i c
  past-skips i c out g = record {
    passed = past-more i c g.passed;
    greatest = λ d t. g.greatest d (past d t);
    first = λ d t earlier. g.first d (past d t) earlier;
  }
    where
      past : (d : List ℕ) → IsTrue (fits_past m k left i d) → IsTrue (fits_past m k left (suc i) d)
      past [] t = absurd (false≢true t)
      past (h ∷ d) t =
          elim (cases_eq h (suc i)) [
            | inl same ↦ let p = past-says m k left h d i t in absurd (false≢true (sym out ∙ (rw same at p.1.own)))
            | inr other ↦ past-other i h d other t
          ]

  module _ (i : ℕ) (r b : List ℕ) (known : suc i ≤ m.bids (suc k)) (own : IsTrue (is_within (m.lots (suc k) (suc i)) left))
      (g : IsFirstGreatest (fits_after m (suc k) (less left (m.lots (suc k) (suc i)))) (sum_after counts (suc k)) r)
      (h : IsBestPast m counts k left (suc i) b) where
    -- a choice that begins with i + 1 has no more than the best of these
    same-most : (n : ℕ) (d : List ℕ) → n ≡ suc i → IsTrue (fits_past m k left i (n ∷ d)) → sum_after counts k (n ∷ d) ≤ℤ sum_after counts k (suc i ∷ r)
    same-most n d same t =
        let p = past-says m k left n d i t in
        let low : sum_after counts (suc k) d ≤ℤ sum_after counts (suc k) r = g.greatest d (rw same at p.1.rest) in
        rw same (omega (arith, ints, low))

    -- the bid with the best of the rest is worth no less than the best so far
    pub past-takes : sum_after counts k b ≤ℤ sum_after counts k (suc i ∷ r) → IsBestPast m counts k left i (suc i ∷ r)
    past-takes most = record {
      passed = past-from m k left (suc i) r i (inr (omega arith)) (record { known = known; own = own; rest = g.passed });
      greatest = greatest;
      first = first;
    }
      where
        greatest : (d : List ℕ) → IsTrue (fits_past m k left i d) → sum_after counts k d ≤ℤ sum_after counts k (suc i ∷ r)
        greatest [] t = absurd (false≢true t)
        greatest (n ∷ d) t =
            elim (cases_eq n (suc i)) [
              | inl same ↦ same-most n d same t
              | inr other ↦ let low : sum_after counts k (n ∷ d) ≤ℤ sum_after counts k b = h.greatest (n ∷ d) (past-other i n d other t) in
                  omega (arith, ints, low, most)
            ]

        first : (d : List ℕ) → IsTrue (fits_past m k left i d) → IsTrue (is_earlier d (suc i ∷ r)) → sum_after counts k d <ℤ sum_after counts k (suc i ∷ r)
        first [] t earlier = absurd (false≢true t)
        first (n ∷ d) t earlier =
            elim (cases_eq n (suc i)) [
              | inl same ↦
                  elim (earlier-says n (suc i) d r earlier) [
                    | inl before ↦ absurd (before-self (suc i) (rw same at before))
                    | inr rest ↦
                        let p = past-says m k left n d i t in
                        let low : sum_after counts (suc k) d <ℤ sum_after counts (suc k) r = g.first d (rw same at p.1.rest) rest.1 in
                        rw same (omega (arith, ints, low))
                  ]
              | inr other ↦ absurd (past-later i n r d (past-says m k left n d (suc i) (past-other i n d other t)).0 earlier)
            ]

    -- it is worth less
    pub past-keeps : sum_after counts k (suc i ∷ r) <ℤ sum_after counts k b → IsBestPast m counts k left i b
    past-keeps less_than = record {
      passed = past-more i b h.passed;
      greatest = greatest;
      first = first;
    }
      where
        greatest : (d : List ℕ) → IsTrue (fits_past m k left i d) → sum_after counts k d ≤ℤ sum_after counts k b
        greatest [] t = absurd (false≢true t)
        greatest (n ∷ d) t =
            elim (cases_eq n (suc i)) [
              | inl same ↦ let low = same-most n d same t in omega (arith, ints, low, less_than)
              | inr other ↦ h.greatest (n ∷ d) (past-other i n d other t)
            ]

        first : (d : List ℕ) → IsTrue (fits_past m k left i d) → IsTrue (is_earlier d b) → sum_after counts k d <ℤ sum_after counts k b
        first [] t earlier = absurd (false≢true t)
        first (n ∷ d) t earlier =
            elim (cases_eq n (suc i)) [
              | inl same ↦ let low = same-most n d same t in omega (arith, ints, low, less_than)
              | inr other ↦ h.first (n ∷ d) (past-other i n d other t) earlier
            ]

  -- all numbers are past 0
  pub past-all : (c : List ℕ) → k < m.bidders → IsBestPast m counts k left 0 c → IsFirstGreatest (fits_after m k left) (sum_after counts k) c
  past-all c inside g = record {
    passed = fits c g.passed;
    greatest = λ d t. g.greatest d (past d t);
    first = λ d t earlier. g.first d (past d t) earlier;
  }
    where
      fits : (d : List ℕ) → IsTrue (fits_past m k left 0 d) → IsTrue (fits_after m k left d)
      fits [] t = absurd (false≢true t)
      fits (n ∷ d) t = (and_parts ((n == 0) || nat_lt 0 n) (fits_after m k left (n ∷ d)) t).1

      some : (n : ℕ) → (n ≡ 0) ⊎ (0 < n)
      some zero = inl refl
      some (suc n) = inr (omega arith)

      past : (d : List ℕ) → IsTrue (fits_after m k left d) → IsTrue (fits_past m k left 0 d)
      past [] t = absurd (omega (arith, inside, eqb-true k m.bidders (and_parts (k == m.bidders) true t).0))
      past (n ∷ d) t = past-from m k left n d 0 (some n) (fits-says m k left n d t)

-- the same, by the number of the bidder and as a loop counts down
pub past-first : (m : Menu) (counts : ℕ → ℕ → ℤ) (k j : ℕ) (left r : List ℕ) → j ≡ suc k → m.lots j 0 ≡ []
    → IsFirstGreatest (fits_after m j left) (sum_after counts j) r → IsBestPast m counts k left (m.bids j) (0 ∷ r)
past-first m counts k j left r next empty g = rw next (past-none m counts k left r (rw next at empty) (rw next at g))

module _ (m : Menu) (counts : ℕ → ℕ → ℤ) (k j : ℕ) (left : List ℕ) (next : j ≡ suc k) where
  -- a number whose package isn't within what is left leaves the best choice as it is
  pub past-passes : (i : ℕ) (b : List ℕ) → 0 < i → is_within (m.lots j (i - 1 + 1)) left ≡ false → IsBestPast m counts k left i b
      → IsBestPast m counts k left (i - 1) b
  past-passes zero b some out h = absurd (omega (arith, some))
  past-passes (suc i) b some out h =
      let low : suc i - 1 ≡ i = omega arith in
      let up : suc i - 1 + 1 ≡ suc i = omega arith in
      rw low (past-skips m counts k left i b (rw (next, up) at out) h)

  module _ (r b after : List ℕ) where
    -- a number that fits and, with the best choice of those after, counts at least as much gives the best choice
    pub past-better : (i : ℕ) → 0 < i → i ≤ m.bids j → IsTrue (is_within (m.lots j (i - 1 + 1)) left) → after ≡ less left (m.lots j (i - 1 + 1))
        → IsFirstGreatest (fits_after m j after) (sum_after counts j) r → IsBestPast m counts k left i b
        → sum_after counts k b ≤ℤ sum_after counts k ((i - 1 + 1) ∷ r) → IsBestPast m counts k left (i - 1) ((i - 1 + 1) ∷ r)
    past-better zero some known own is g h most = absurd (omega (arith, some))
    past-better (suc i) some known own is g h most =
        let low : suc i - 1 ≡ i = omega arith in
        let up : i + 1 ≡ suc i = omega arith in
        rw (low, up) (past-takes m counts k left i r b (rw next at known) (rw (next, low, up) at own) (rw (is, next, low, up) at g) h (rw (low, up) at most))

    -- a number that fits but, with the best choice of those after, counts less leaves the best choice as it is
    pub past-worse : (i : ℕ) → 0 < i → i ≤ m.bids j → IsTrue (is_within (m.lots j (i - 1 + 1)) left) → after ≡ less left (m.lots j (i - 1 + 1))
        → IsFirstGreatest (fits_after m j after) (sum_after counts j) r → IsBestPast m counts k left i b
        → sum_after counts k ((i - 1 + 1) ∷ r) <ℤ sum_after counts k b → IsBestPast m counts k left (i - 1) b
    past-worse zero some known own is g h less_than = absurd (omega (arith, some))
    past-worse (suc i) some known own is g h less_than =
        let low : suc i - 1 ≡ i = omega arith in
        let up : i + 1 ≡ suc i = omega arith in
        rw low (past-keeps m counts k left i r b (rw next at known) (rw (next, low, up) at own) (rw (is, next, low, up) at g) h (rw (low, up) at less_than))
