-- The first rows: each single winner with its Vickrey price, and that turns go on from
-- them.
use Rattle.std.specs.Prelude.{◌≡◌, ℕ, zero, suc, ◌+◌, ◌-◌, ◌*◌, ◌^◌, ◌<◌, ◌≤◌, ◌==◌, true, false, eqb, List, [], ◌∷◌, length, map, get_or, ℤ, pos, ◌≤ℤ◌, refl}
use Rattle.std.specs.List.{AllByRecursion, IsDistinct}
use Rattle.std.proofs.Common.{sym, ◌∙◌, ap, arith, subst, ◌⊎◌, inl, inr}
use Rattle.std.proofs.lemmas.Int.{ints}
use Rattle.std.proofs.lemmas.Bool.{cases_Bool, ne_eqb, false≢true}
use Rattle.std.proofs.lemmas.List.{get_or-map, length-map}
use Rattle.std.proofs.lemmas.Nat.{pow_pos, pow_below}
use Rattle.auction_model.proofs.PriceLaws.{vickrey-one}
use Rattle.auction_model.specs.Market.{Market, uses, value_of, worth_in}
use Rattle.auction_model.specs.Greatest.{IsFirstGreatest, IsWinning}
use Rattle.auction_model.specs.Lawful.{IsMarket}
use Rattle.auction_model.specs.Lowered.{of_bidder}
use Rattle.auction_model.specs.Prices.{AreVickreyPrices, IsVickreyPrice, allowed_without, everyone, sum_over, weight_of}
use Rattle.auction_model.specs.PricingRun.{BidderRow, single_rows}
use Rattle.choices.specs.Singles.{AreSingles, IsSingle}
use Rattle.choices.specs.declared.chooser.Single.{Single}
use Rattle.far_num.specs.declared.Row.{Row}
use Rattle.nearest_point.specs.Problem.{row_at}
use Rattle.projection_laws.proofs.Sums.{total-le}
use Rattle.core_laws.specs.Rows.{IsGivenBy, row_in}
use Rattle.core_laws.specs.Winners.{for_bidders, has_bit, has_member, winners_in}
use Rattle.core_laws.proofs.Sizes.{unused-worth, won-low}
use Rattle.core_laws.proofs.Sums.{over-is}
use Rattle.core_laws.proofs.Winners.{loser-zero, paid-zip}
use Rattle.wide_num.specs.Sums.{nth, total}
use Rattle.core_price.specs.Rows.{prices_of, single_bits}
use Rattle.core_price.specs.SoFar.{CanTurn, IsSoFar, choice_at}
use Rattle.core_laws.specs.Weights.{CanWeigh, FewWin}
use Rattle.core_price.proofs.Points.{at-bidder}
use Rattle.core_price.proofs.SameRows.{AreSame, IsSame, go-same, same-by_place}
use Rattle.core_price.proofs.Spots.{single-at, singles-count, spot, spot-bit, spot-inside, spot-number, spot-of, spot-winner, spot-wins, winners-count}
use Rattle.core_price.proofs.VickreyLaws.{price-range, single-allowed, single-given, single-greatest, single-idle, value-is}

-- the single at a place
abbrev pub single_at : List Single → ℕ → Single
single_at singles i = get_or singles i (record { winner = 0; price = pos 0; choice = [] })

each-at : (P : Single → Type 0) (xs : List Single) → AllByRecursion P xs → (i : ℕ) → i < length xs → P (single_at xs i)
each-at P [] h i lt = absurd (omega arith)
each-at P (x ∷ xs) h zero lt = h.0
each-at P (x ∷ xs) h (suc i) lt = each-at P xs h.1 i (omega arith)

-- the single row at a place has the bit of its winner and the price of that winner
pub bits-at : (s : ℕ) (singles : List Single) (i : ℕ) → i < length singles → row_at (single_bits s singles) i ≡ record
    { members = 2 ^ (s + i); bound = (single_at singles i).price }
bits-at s [] i lt = absurd (omega arith)
bits-at s (x ∷ singles) zero lt = let e : s + 0 ≡ s = omega arith in rw e refl
bits-at s (x ∷ singles) (suc i) lt = let e : suc s + i ≡ s + suc i = omega arith in rw e at (bits-at (suc s) singles i (omega arith))

-- there is one single row for each single
pub bits-count : (s : ℕ) (singles : List Single) → length (single_bits s singles) ≡ length singles
bits-count s [] = refl
bits-count s (x ∷ singles) = ap suc (bits-count (suc s) singles)

-- the sets of the later bits are others
later-bits : (x s : ℕ) (singles : List Single) → x < 2 ^ s → AllByRecursion (λ y. eqb x y ≡ false) (map (λ r. r.members) (single_bits s singles))
later-bits x s [] lt = tt
later-bits x s (y ∷ singles) lt = (
  ne_eqb x (2 ^ s) (λ e. absurd (omega arith)),
  later-bits x (suc s) singles
      (let p = pow_below s (suc s) (omega arith) in omega arith),
)

bits-distinct : (s : ℕ) (singles : List Single) → IsDistinct eqb (map (λ r. r.members) (single_bits s singles))
unfolding IsDistinct
bits-distinct s [] = tt
bits-distinct s (x ∷ singles) = (later-bits (2 ^ s) (suc s) singles (pow_below s (suc s) (omega arith)), bits-distinct (suc s) singles)

module _ (m : Market) (lawful : IsMarket m) (z : List ℕ) (win : IsWinning m z) (singles : List Single) (are : AreSingles m z singles) where
  len : length z ≡ m.bidders
  len = lawful.lengths z win.passed

  -- there is one single for each winner
  pub count : length singles ≡ winners_in z
  count = sym (length-map singles (λ s. s.winner)) ∙ ap length are.winners ∙ winners-count 0 z

  single : (i : ℕ) → i < winners_in z → IsSingle m z (single_at singles i)
  single i lt = each-at (IsSingle m z) singles are.each i (omega (arith, lt, count))

  winner-is : (i : ℕ) → i < winners_in z → (single_at singles i).winner ≡ suc (spot z i)
  winner-is i lt =
      sym (get_or-map (λ s. s.winner) singles i (record { winner = 0; price = pos 0; choice = [] }) 0 (omega (arith, lt, count)))
      ∙ ap (λ l. get_or l i 0) are.winners
      ∙ spot-winner 0 z i lt
      ∙ omega arith

  price-of : (i : ℕ) → i < winners_in z → IsVickreyPrice m z (suc (spot z i)) (single_at singles i).price
  price-of i lt = subst (λ j. IsVickreyPrice m z j (single_at singles i).price) (winner-is i lt) ((single i lt).price)

  price-at : (i : ℕ) → i < winners_in z → nth (prices_of singles) i ≡ (single_at singles i).price
  price-at i lt = get_or-map (λ s. s.price) singles i (record { winner = 0; price = pos 0; choice = [] }) (pos 0) (omega (arith, lt, count))

  -- there is one price for each winner
  pub prices-count : length (prices_of singles) ≡ winners_in z
  prices-count = length-map singles (λ s. s.price) ∙ count

  spot-low : (i : ℕ) → i < winners_in z → spot z i < m.bidders
  spot-low i lt = let h = spot-inside z i lt in omega (arith, h, len)

  -- the prices as a number for each bidder
  bidder-price : (k : ℕ) → k < m.bidders → uses z (suc k) ≡ true → IsVickreyPrice m z (suc k) (of_bidder (for_bidders z (prices_of singles)) (suc k))
  bidder-price k lt used =
      let s = spot-of z k (omega (arith, lt, len)) used in
      let e : of_bidder (for_bidders z (prices_of singles)) (suc k) ≡ (single_at singles s.0).price =
      at-bidder z (prices_of singles) k ∙ ap (nth (for_bidders z (prices_of singles))) (sym s.2) ∙ spot-number z s.0 (prices_of singles) s.1
      ∙ price-at s.0 s.1 in
      subst (λ x. IsVickreyPrice m z (suc k) x) (sym e) (subst (λ n. IsVickreyPrice m z (suc n) (single_at singles s.0).price) s.2 (price-of s.0 s.1))

  -- the prices of the singles are the Vickrey prices
  pub vickrey : AreVickreyPrices m z (of_bidder (for_bidders z (prices_of singles)))
  vickrey zero some inside = absurd (omega arith)
  vickrey (suc k) some inside = by (cases_Bool (uses z (suc k)))
    where
      by : (uses z (suc k) ≡ true) ⊎ (uses z (suc k) ≡ false) → IsVickreyPrice m z (suc k) (of_bidder (for_bidders z (prices_of singles)) (suc k))
      by (inl used) = bidder-price k (omega arith) used
      by (inr loses) = ((λ wins. absurd (false≢true (sym loses ∙ wins))), (λ _. at-bidder z (prices_of singles) k ∙ loser-zero z (prices_of singles) k loses))

  range-of : (k : ℕ) → k < m.bidders → (pos 0 ≤ℤ of_bidder (for_bidders z (prices_of singles)) (suc k))
      × (of_bidder (for_bidders z (prices_of singles)) (suc k) ≤ℤ worth_in m z (suc k))
  range-of k lt = by (cases_Bool (uses z (suc k)))
    where
      by : (uses z (suc k) ≡ true) ⊎ (uses z (suc k) ≡ false) → (pos 0 ≤ℤ of_bidder (for_bidders z (prices_of singles)) (suc k))
          × (of_bidder (for_bidders z (prices_of singles)) (suc k) ≤ℤ worth_in m z (suc k))
      by (inl used) = price-range m lawful z win k lt used (of_bidder (for_bidders z (prices_of singles)) (suc k)) (bidder-price k lt used)
      by (inr loses) =
          let e = at-bidder z (prices_of singles) k ∙ loser-zero z (prices_of singles) k loses in
          let w = unused-worth m lawful z k loses in
          (omega (arith, ints, e), omega (arith, ints, e, w))

  -- the prices of the winners come to no more than the value
  total-price : total (winners_in z) (nth (prices_of singles)) ≤ℤ value_of m z
  total-price =
      let a = paid-zip z (prices_of singles) in
      let b = ap (λ n. sum_over everyone (of_bidder (for_bidders z (prices_of singles))) n) len in
      let c = over-is everyone (of_bidder (for_bidders z (prices_of singles))) m.bidders in
      let d = total-le m.bidders (λ k. of_bidder (for_bidders z (prices_of singles)) (suc k)) (λ k. worth_in m z (suc k)) (λ k lt. (range-of k lt).1) in
      let e = value-is m lawful z win.passed in
      omega (arith, ints, a, b, c, d, e)

  module _ (few : winners_in z ≤ 6) (worth : value_of m z ≤ℤ pos (winners_in z * 2 ^ 42)) where
    price-low : (i : ℕ) → i < winners_in z → (pos 0 ≤ℤ (single_at singles i).price) × ((single_at singles i).price ≤ℤ pos (2 ^ 46))
        × ((single_at singles i).price ≤ℤ value_of m z)
    price-low i lt =
        let r = price-range m lawful z win (spot z i) (spot-low i lt) (spot-wins z i lt) (single_at singles i).price (price-of i lt) in
        let w = won-low m lawful z win.passed (suc (spot z i)) (omega arith) (let l = spot-low i lt in omega arith) in
        (r.0, omega (arith, ints, r.1, w.1), omega (arith, ints, r.1, w.1))

    -- the prices of the singles meet the conditions of the turns
    pub can-turn : m.bidders ≤ 64 → (weights : List ℕ) → FewWin z weights → CanWeigh m z weights → CanTurn m z (prices_of singles) weights
    can-turn members weights win_few weighing = record {
      members = members;
      few = win_few;
      weighing = weighing;
      worth = worth;
      long = prices-count;
      vickrey = vickrey;
      targets = record {
        not_negative = λ i lt. (let l : i < winners_in z = omega (arith, lt, prices-count) in let e = price-at i l in let r = (price-low i l).0 in
            omega (arith, ints, e, r));
        sum = let a = ap (λ n. total n (nth (prices_of singles))) prices-count in let b = total-price in omega (arith, ints, a, b);
      };
      sum = let a = ap (λ n. total n (nth (prices_of singles))) prices-count in let b = total-price in omega (arith, ints, a, b);
    }

    bit-is : (i : ℕ) → i < winners_in z → (j : ℕ) → 0 < j → j ≤ m.bidders → has_member z (2 ^ i) j ≡ (j == suc (spot z i))
    bit-is i lt zero some inside = absurd (omega arith)
    bit-is i lt (suc k) some inside = let b : suc k - 1 ≡ k = omega arith in ap (has_bit z (2 ^ i)) b ∙ spot-bit z i k lt (omega (arith, len))

    at-start : (i : ℕ) → i < winners_in z → row_at (single_bits 0 singles) i ≡ record { members = 2 ^ i; bound = (single_at singles i).price }
    at-start i lt = let e : 0 + i ≡ i = omega arith in rw e at (bits-at 0 singles i (omega (arith, lt, count)))

    rows-count : length (single_bits 0 singles) ≡ winners_in z
    rows-count = bits-count 0 singles ∙ count

    given-by : (i : ℕ) → i < winners_in z → IsGivenBy m z (record { members = 2 ^ i; bound = (single_at singles i).price }) (single_at singles i).choice
    given-by i lt =
        let k = spot z i in
        let first = subst (λ j. IsFirstGreatest (allowed_without m j) (value_of m) (single_at singles i).choice) (winner-is i lt) ((single i lt).choice) in
        record {
          members = (pow_pos i, pow_below i (winners_in z) lt);
          allowed = single-allowed m lawful z win k (spot-low i lt) (spot-wins z i lt) (single_at singles i).price (price-of i lt)
              (single_at singles i).choice first (has_member z (2 ^ i)) (bit-is i lt);
          idle = single-idle m lawful z win k (spot-low i lt) (spot-wins z i lt) (single_at singles i).price (price-of i lt)
              (single_at singles i).choice first (has_member z (2 ^ i)) (bit-is i lt);
          given = single-given m lawful z win k (spot-low i lt) (spot-wins z i lt) (single_at singles i).price (price-of i lt)
              (single_at singles i).choice first (has_member z (2 ^ i)) (bit-is i lt);
          greatest = single-greatest m lawful z win k (spot-low i lt) (spot-wins z i lt) (single_at singles i).price (price-of i lt)
              (single_at singles i).choice first (has_member z (2 ^ i)) (bit-is i lt);
        }

    same-start : (v : ℕ → ℤ) → AreVickreyPrices m z v → AreSame m (map (row_in z) (single_bits 0 singles)) (single_rows v 0 z)
    same-start v ps = same-by_place m none (map (row_in z) (single_bits 0 singles)) (single_rows v 0 z)
        (length-map (single_bits 0 singles) (row_in z) ∙ rows-count ∙ sym (singles-count v 0 z))
        (λ i lt. at i (let l = length-map (single_bits 0 singles) (row_in z) in omega (arith, lt, l, rows-count)))
      where
        none : BidderRow
        none = row_in z (record { members = 0; bound = pos 0 })

        at : (i : ℕ) → i < winners_in z → IsSame m (get_or (map (row_in z) (single_bits 0 singles)) i none) (get_or (single_rows v 0 z) i none)
        at i lt =
            let a : get_or (map (row_in z) (single_bits 0 singles)) i none ≡ row_in z (row_at (single_bits 0 singles) i) =
            get_or-map (row_in z) (single_bits 0 singles) i (record { members = 0; bound = pos 0 }) none (omega (arith, lt, rows-count)) in
            let b = single-at v 0 z i none lt in
            let p = vickrey-one m z (suc (spot z i)) (single_at singles i).price (v (suc (spot z i))) (price-of i lt)
            (ps (suc (spot z i)) (omega arith) (let l = spot-low i lt in omega arith)) in
            let e : 0 + spot z i ≡ spot z i = omega arith in
            subst (λ x. IsSame m x (get_or (single_rows v 0 z) i none)) (sym (a ∙ ap (row_in z) (at-start i lt)))
            (subst (λ x. IsSame m (row_in z (record { members = 2 ^ i; bound = (single_at singles i).price })) x) (sym b)
            (rw e record { bound = p; members = bit-is i lt }))

    -- the single rows with their choices are the rows when the first turn begins
    pub start : (weights : List ℕ) → IsSoFar m z weights (single_bits 0 singles) (map (λ s. s.choice) singles) []
    start weights = record {
      count = let a = rows-count in omega arith;
      long = length-map singles (λ s. s.choice) ∙ sym (bits-count 0 singles);
      given = λ i lt. given i (omega (arith, lt, rows-count));
      distinct = bits-distinct 0 singles;
      row_bounds = record {
        not_negative = λ i lt. (let l : i < winners_in z = omega (arith, lt, rows-count) in let e = ap (λ (r : Row). r.bound) (at-start i l) in let p =
            price-low i l in omega (arith, ints, e, p.0));
        small = λ i lt. (let l : i < winners_in z = omega (arith, lt, rows-count) in let e = ap (λ (r : Row). r.bound) (at-start i l) in let p =
            price-low i l in omega (arith, ints, e, p.1));
      };
      below_value = λ i lt. (let l : i < winners_in z = omega (arith, lt, rows-count) in let e = ap (λ (r : Row). r.bound) (at-start i l) in let p =
          price-low i l in omega (arith, ints, e, p.2));
      singles = λ j lt. (j, omega (arith, lt, rows-count), ap (λ (r : Row). r.members) (at-start j lt));
      each = tt;
      run = λ v ps rest go. go-same m (weight_of weights) z v (map (row_in z) (single_bits 0 singles)) (single_rows v 0 z) rest (same-start v ps) go;
    }
      where
        given : (i : ℕ) → i < winners_in z → IsGivenBy m z (row_at (single_bits 0 singles) i) (choice_at (map (λ s. s.choice) singles) i)
        given i lt =
            let c : choice_at (map (λ s. s.choice) singles) i ≡ (single_at singles i).choice = get_or-map (λ s. s.choice) singles i
            (record { winner = 0; price = pos 0; choice = [] }) [] (omega (arith, lt, count)) in
            subst (λ (r : Row). IsGivenBy m z r (choice_at (map (λ s. s.choice) singles) i)) (sym (at-start i lt))
            (subst (λ f. IsGivenBy m z (record { members = 2 ^ i; bound = (single_at singles i).price }) f) (sym c) (given-by i lt))
