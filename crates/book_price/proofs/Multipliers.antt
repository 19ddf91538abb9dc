-- The multipliers of the kept rows of any market pass the tests of multipliers.
use Rattle.std.specs.Prelude.{Bool, IsTrue, List, [], cond, false, length, map, pos, refl, slice_index_or, suc, true, zero, ℕ, ℤ, ◌*ℤ◌, ◌+ℤ◌, ◌-ℤ◌}
use Rattle.std.specs.Prelude.{◌-◌, ◌<ℤ◌, ◌<◌, ◌≡◌, ◌≤ℤ◌, ◌≤◌}
use Rattle.std.proofs.Common.{sym, ◌∙◌, ap, arith, ◌⊎◌, inl, inr}
use Rattle.std.proofs.lemmas.Int.{ints}
use Rattle.std.proofs.lemmas.List.{get_or-map, length-map}
use Rattle.auction_model.specs.Lowered.{of_bidder}
use Rattle.auction_model.specs.Market.{Market, uses, value_of, worth_in}
use Rattle.cert_grammar.specs.Certificate.{RowValue, WithoutValue, is_member, row_of as row_at_place}
use Rattle.cert_soundness.specs.MarketTests.{ShowsLeastSum, ShowsNearest, sum_holding, vickrey_in}
use Rattle.choices.specs.Singles.{AreSingles, IsSingle}
use Rattle.choices.specs.declared.chooser.Single.{Single}
use Rattle.core_price.specs.Kept.{firsts, rows_in, seconds}
use Rattle.auction_model.specs.Prices.{weight_of}
use Rattle.core_price.specs.Rows.{prices_of}
use Rattle.core_laws.specs.Weights.{weights_in}
use Rattle.core_price.specs.declared.priced.PricedRow.{PricedRow}
use Rattle.far_num.specs.Members.{holds}
use Rattle.far_num.specs.declared.Row.{Row}
use Rattle.nearest_point.specs.Problem.{bounds, coefficients, weight_at}
use Rattle.projection_laws.specs.Multipliers.{AreFirst, AreSecond, SumsTo, sum_at}
use Rattle.projection_laws.proofs.Order.{zero_or}
use Rattle.core_laws.specs.Winners.{for_bidders, has_bit, has_member, winners_in}
use Rattle.wide_num.specs.Sums.{nth}
use Rattle.book_price.specs.Made.{cert_made, row_from}
use Rattle.book_price.proofs.Members.{member-is}
use Rattle.book_price.proofs.Places.{IsPlace, each-at, part-of_winner, place-of, rank, single_at, weight-rank}
use Rattle.book_price.proofs.Rows.{no_row, priced_at, row-is}

times_when : (b : Bool) (x : ℤ) → cond b x (pos 0) ≡ x *ℤ cond b (pos 1) (pos 0)
times_when true x = omega (arith, ints)
times_when false x = omega (arith, ints)

-- the first multiplier at a place is that of the row there
pub first-at : (rows : List PricedRow) (i : ℕ) → i < length rows → nth (firsts rows) i ≡ (priced_at rows i).first
first-at rows i lt = get_or-map (λ r. r.first) rows i no_row (pos 0) lt

-- the second multiplier at a place is that of the row there
pub second-at : (rows : List PricedRow) (i : ℕ) → i < length rows → nth (seconds rows) i ≡ (priced_at rows i).second
second-at rows i lt = get_or-map (λ r. r.second) rows i no_row (pos 0) lt

-- the coefficients of a row are those of the set of its members
pub members-at : (rows : List PricedRow) (i j : ℕ) → i < length rows → coefficients (rows_in rows) i j ≡ holds (priced_at rows i).row.members j
members-at rows i j lt = ap (λ (r : Row). holds r.members j) (get_or-map (λ r. r.row) rows i no_row (record { members = 0; bound = pos 0 }) lt)

-- the rows that contain the bidder k + 1 are those that hold the winner at its place
module _ (z : List ℕ) (k i : ℕ) (inside : k < length z) (place : IsPlace z k i) (rows : List PricedRow) where
  term : (r : PricedRow) (x : ℤ) → cond (is_member (row_from z r).members (suc k)) x (pos 0) ≡ x *ℤ holds r.row.members i
  term r x =
      let b : suc k - 1 ≡ k = omega arith in
      let bit = member-is (has_member z r.row.members) (length z) (suc k) (omega arith) (omega arith) ∙ ap (has_bit z r.row.members) b in
      ap (λ t. cond t x (pos 0)) bit ∙ times_when (has_bit z r.row.members k) x ∙ ap (λ (y : ℤ). x *ℤ y) (sym (place.member r.row.members))

  -- the sum over the first n rows that contain the bidder is that by the coefficients of the
  -- winner
  pub holding-is : (number : RowValue → ℤ) (numbers : ℕ → ℤ) → ((q : ℕ) → q < length rows → numbers q ≡ number (row_from z (priced_at rows q))) → (n : ℕ)
      → n ≤ length rows
      → sum_holding (map (row_from z) rows) (suc k) number n ≡ sum_at n (coefficients (rows_in rows)) numbers i
  holding-is number numbers h zero le = refl
  holding-is number numbers h (suc n) le =
      let before = holding-is number numbers h n (omega arith) in
      let row = ap (λ (r : RowValue). cond (is_member r.members (suc k)) (number r) (pos 0)) (row-is z rows n le) in
      let x = number (row_from z (priced_at rows n)) in
      let held = ap (λ (y : ℤ). x *ℤ y) (sym (members-at rows n i le)) in
      let counted = ap (λ (y : ℤ). y *ℤ coefficients (rows_in rows) n i) (sym (h n le)) in
      let last = row ∙ term (priced_at rows n) x ∙ held ∙ counted in
      omega (arith, ints, before, last)

  -- so is the sum over all rows that contain the bidder
  pub all-holding : (number : RowValue → ℤ) (numbers : ℕ → ℤ) → ((q : ℕ) → q < length rows → numbers q ≡ number (row_from z (priced_at rows q)))
      → sum_holding (map (row_from z) rows) (suc k) number (length (map (row_from z) rows)) ≡ sum_at (length rows) (coefficients (rows_in rows)) numbers i
  all-holding number numbers h = ap (λ n. sum_holding (map (row_from z) rows) (suc k) number n) (length-map rows (row_from z))
      ∙ holding-is number numbers h (length rows) (omega arith)

-- a single's choice has the greatest value without it
single-value : (m : Market) (z : List ℕ) (s : Single) → IsSingle m z s → value_of m s.choice ≡ (s.price +ℤ value_of m z) -ℤ worth_in m z s.winner
single-value m z s is =
    let most = is.price.0 is.used in
    let above = most.bound s.choice is.choice.passed in
    let r = most.reached in
    let below = is.choice.greatest r.0 r.1 in
    let same = r.2 in
    omega (arith, ints, above, below, same)

module _ (m : Market) (z : List ℕ) (long : length z ≡ m.bidders) (weights : List ℕ) (value : ℤ) (table : List (List ℤ)) (singles : List Single)
    (tables : List (List (List ℤ))) (den : ℤ) (at : List ℤ) (rows : List PricedRow) (lowered : List (List ℤ)) where
  module _ (first : AreFirst (winners_in z) (length rows) (coefficients (rows_in rows)) (bounds (rows_in rows)) den (nth at) (nth (firsts rows))) where
    first-sign : (place : ℕ) → 0 < place → place ≤ length rows → pos 0 ≤ℤ (row_at_place (map (row_from z) rows) place).first
    first-sign zero some inside = absurd (omega arith)
    first-sign (suc i) some inside =
        let e = ap (λ (r : RowValue). r.first) (row-is z rows i inside) in
        let f = first-at rows i inside in
        let s = first.not_negative i inside in
        omega (arith, ints, e, f, s)

    module _ (sums : SumsTo (winners_in z) (length rows) (coefficients (rows_in rows)) den (nth (firsts rows))) where
      first-column : (j : ℕ) → 0 < j → j ≤ m.bidders → IsTrue (uses z j) → sum_holding (map (row_from z) rows) j (λ row. row.first)
          (length (map (row_from z) rows)) ≡ den
      first-column zero some inside used = absurd (omega arith)
      first-column (suc k) some inside used =
          let lt : k < length z = omega (arith, inside, long) in
          let place = place-of z k lt used in
          all-holding z k (rank z k) lt place rows (λ row. row.first) (nth (firsts rows)) (λ q l. first-at rows q l) ∙ sums (rank z k) place.inside

      -- the first multipliers of the kept rows pass the test of the least sum
      pub kept_firsts : (place : ℕ) → ShowsLeastSum m (cert_made z value table singles tables den at rows lowered) place
      kept_firsts place = record {
        sign = λ some inside. first-sign place some (omega (arith, inside, length-map rows (row_from z)));
        columns = λ j some inside is used. first-column j some inside used;
      }

  module _ (is : value ≡ value_of m z) (are : AreSingles m z singles) (count : length tables ≡ length singles)
      (first : AreFirst (winners_in z) (length rows) (coefficients (rows_in rows)) (bounds (rows_in rows)) den (nth at) (nth (firsts rows)))
      (second : AreSecond (winners_in z) (length rows) (coefficients (rows_in rows)) (bounds (rows_in rows)) den (nth at) (nth (firsts rows))
      (nth (seconds rows)) (nth (prices_of singles)) (weight_at (weights_in z weights))) where
    vickrey-is : (k : ℕ) → k < length z → uses z (suc k) ≡ true → vickrey_in m (cert_made z value table singles tables den at rows lowered) (suc k) ≡ nth
        (prices_of singles) (rank z k)
    vickrey-is k lt used =
        let i = rank z k in
        let p = part-of_winner z singles tables are.winners count k lt used in
        let own = single-value m z (single_at singles i) (each-at (IsSingle m z) singles are.each i (record { winner = 0; price = pos 0; choice = [] })
        p.inside) in
        let choice = ap (λ (w : WithoutValue). value_of m w.choice) p.part in
        let won = ap (worth_in m z) p.winner in
        let price : nth (prices_of singles) i ≡ (single_at singles i).price = get_or-map (λ s. s.price) singles i
        (record { winner = 0; price = pos 0; choice = [] }) (pos 0) p.inside in
        omega (arith, ints, own, choice, won, price, is)

    second-sign : (place : ℕ) → 0 < place → place ≤ length rows → (pos 0 <ℤ (row_at_place (map (row_from z) rows) place).first)
        ⊎ (pos 0 ≤ℤ (row_at_place (map (row_from z) rows) place).second)
    second-sign zero some inside = absurd (omega arith)
    second-sign (suc i) some inside =
        let e = ap (λ (r : RowValue). r.first) (row-is z rows i inside) in
        let f = first-at rows i inside in
        let s = first.not_negative i inside in
        let g = ap (λ (r : RowValue). r.second) (row-is z rows i inside) in
        let t = second-at rows i inside in
        elim (zero_or (nth (firsts rows) i)) [
          | inl none ↦ inr (let u = second.sign i inside none in omega (arith, ints, g, t, u))
          | inr other ↦ inl (omega (arith, ints, e, f, s, other))
        ]

    second-column : (j : ℕ) → 0 < j → j ≤ m.bidders → IsTrue (uses z j)
        → of_bidder (for_bidders z at) j -ℤ (den *ℤ vickrey_in m (cert_made z value table singles tables den at rows lowered) j) ≡ pos
        (weight_of weights j) *ℤ sum_holding (map (row_from z) rows) j (λ row. row.second) (length (map (row_from z) rows))
    second-column zero some inside used = absurd (omega arith)
    second-column (suc k) some inside used =
        let lt : k < length z = omega (arith, inside, long) in
        let place = place-of z k lt used in
        let held = all-holding z k (rank z k) lt place rows (λ row. row.second) (nth (seconds rows)) (λ q l. second-at rows q l) in
        let b : suc k - 1 ≡ k = omega arith in
        let paid : of_bidder (for_bidders z at) (suc k) ≡ nth at (rank z k) = ap (nth (for_bidders z at)) b ∙ place.number at in
        let price = ap (λ (x : ℤ). den *ℤ x) (vickrey-is k lt used) in
        let s = second.sums (rank z k) place.inside in
        let w : weight_at (weights_in z weights) (rank z k) ≡ pos (weight_of weights (suc k)) = ap pos
        (weight-rank z weights k lt used ∙ sym (ap (λ n. slice_index_or weights n 0) b)) in
        let t = ap (λ (x : ℤ). pos (weight_of weights (suc k)) *ℤ x) held in
        let u = ap (λ (x : ℤ). x *ℤ sum_at (length rows) (coefficients (rows_in rows)) (nth (seconds rows)) (rank z k)) w in
        omega (arith, ints, t, u, paid, price, s)

    -- the second multipliers of the kept rows pass the test of the nearest point
    pub kept_seconds : (place : ℕ) → ShowsNearest m (weight_of weights) (cert_made z value table singles tables den at rows lowered) place
    kept_seconds place = record {
      sign = λ some inside. second-sign place some (omega (arith, inside, length-map rows (row_from z)));
      columns = λ j some inside here used. second-column j some inside used;
    }
