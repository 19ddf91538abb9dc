-- The turns: a block adds a new row, there are at most 2 ^ m turns, and the last point ends the run.
use Rattle.std.specs.Prelude.{Bool, List, [], cond, eqb, false, get_or, length, map, not, pos, refl, suc, true, ℕ, ℤ, ◌*ℤ◌, ◌++◌, ◌<ℤ◌, ◌<◌, ◌^◌, ◌∷◌}
use Rattle.std.specs.Prelude.{◌≡◌, ◌≢◌, ◌≤ℤ◌, ◌≤◌}
use Rattle.std.specs.List.{IsDistinct, list_any}
use Rattle.std.specs.Cmp.{nat_eq_equiv}
use Rattle.std.specs.declared.option.Option.TheVariants.{Some}
use Rattle.std.proofs.Common.{sym, ◌∙◌, ap, arith, subst, inl, inr, ◌⊎◌, append_assoc}
use Rattle.std.proofs.lemmas.Int.{ints}
use Rattle.std.proofs.lemmas.Bool.{eqb-true, ne_eqb, or_from, or_cases, cases_eq}
use Rattle.std.proofs.lemmas.List.{get_or-map, length-map}
use Rattle.std.proofs.lemmas.Map.Keys.{IsDistinct-push}
use Rattle.std.proofs.lemmas.Map.Steps.{length-le_from_distinct_below}
use Rattle.auction_model.proofs.ListLaws.{each-push}
use Rattle.auction_model.proofs.PriceLaws.{vickrey-one}
use Rattle.auction_model.specs.Market.{Market, value_of, worth_in}
use Rattle.auction_model.specs.Greatest.{IsWinning}
use Rattle.auction_model.specs.Lawful.{IsMarket}
use Rattle.auction_model.specs.Lowered.{of_bidder}
use Rattle.auction_model.specs.Ones.{AreOnes}
use Rattle.auction_model.specs.Prices.{AreVickreyPrices, AreWeights, IsUnblocked, weight_of}
use Rattle.auction_model.specs.Blocks.{IsGreatestExcess}
use Rattle.auction_model.specs.PricingRun.{BidderTurn, GoOn, single_rows}
use Rattle.blocking.specs.declared.look.Block.{Block}
use Rattle.blocking.specs.Look.{IsBlock}
use Rattle.far_num.specs.Members.{holds}
use Rattle.far_num.specs.declared.Row.{Row}
use Rattle.nearest_point.specs.Problem.{IsNarrow, IsProblem, bounds, coefficients, row_at}
use Rattle.nearest_point.specs.Shown.{IsShownNearest}
use Rattle.nearest_point.proofs.Bits.{dot_single, holds_nonneg}
use Rattle.nearest_point.proofs.Places.{lt_or}
use Rattle.projection_laws.proofs.Order.{cancel_nonneg, mul_nonneg}
use Rattle.projection_laws.proofs.Sums.{total-nonneg}
use Rattle.core_laws.specs.Rows.{IsGivenBy, row_in}
use Rattle.core_laws.specs.Winners.{for_bidders, has_member, winners_in}
use Rattle.core_laws.proofs.Blocks.{block-row, excess-row, free-excess, idle-outside, row-is_new}
use Rattle.core_laws.proofs.Sizes.{won-low}
use Rattle.core_laws.proofs.Sums.{over-is}
use Rattle.wide_num.specs.Sums.{dot, nth}
use Rattle.core_price.specs.Lowest.{IsLowest}
use Rattle.core_price.specs.SoFar.{CanTurn, HasEnded, IsSoFar, choice_at}
use Rattle.core_price.specs.Turns.{IsPointOfTurn, last_turn, point_of, turn_of, turns_of}
use Rattle.core_laws.specs.Weights.{WeighAlike, weights_in}
use Rattle.core_price.specs.declared.priced.Turn.{Turn}
use Rattle.core_price.proofs.LookLaws.{small-product}
use Rattle.core_price.proofs.Points.{meets}
use Rattle.core_price.proofs.Runs.{turn-point}
use lib.ListN.{length-append, get_or-append}
use lib.Seq.{get_or-append_seam}
use mathlib.Core.List.{map-append}

any-none : (xs : List ℕ) (y : ℕ) → ((i : ℕ) → i < length xs → get_or xs i 0 ≢ y) → list_any (eqb y) xs ≡ false
any-none [] y h = refl
any-none (x ∷ xs) y h = or_from (eqb y x) (list_any (eqb y) xs) (ne_eqb y x (λ e. h 0 (omega arith) (sym e))) (any-none xs y (λ i lt. h (suc i) (omega arith)))

any-below : (xs : List ℕ) (n q : ℕ) → ((i : ℕ) → i < length xs → (0 < get_or xs i 0) × (get_or xs i 0 < n)) → list_any (eqb q) xs ≡ true → (0 < q) × (q < n)
any-below [] n q h e = absurd (lie e)
  where
    lie : false ≡ true → ⊥
    lie e = cc
any-below (x ∷ xs) n q h e = by (or_cases (eqb q x) (list_any (eqb q) xs) e) (λ r. any-below xs n q (λ i lt. h (suc i) (omega arith)) r)
  where
    by : (eqb q x ≡ true) ⊎ (list_any (eqb q) xs ≡ true) → (list_any (eqb q) xs ≡ true → (0 < q) × (q < n)) → (0 < q) × (q < n)
    by (inl t) rec = let s : q ≡ x = eqb-true q x t in let k = h 0 (omega arith) in (omega (arith, k.0), omega (arith, k.1))
    by (inr t) rec = rec t

bits-are : (rows : List Row) (i : ℕ) → i < length rows → get_or (map (λ r. r.members) rows) i 0 ≡ (row_at rows i).members
bits-are rows i lt = get_or-map (λ r. r.members) rows i (record { members = 0; bound = pos 0 }) 0 lt

-- there is room for one turn more: no set is empty, and no two rows have the same set
pub turns-few : (m : Market) (z weights : List ℕ) (rows : List Row) (choices : List (List ℕ)) (past : List Turn) → IsSoFar m z weights rows choices past
    → length past < 2 ^ winners_in z
turns-few m z weights rows choices past far = by (cases_eq (winners_in z) 0)
  where
    set : (i : ℕ) → i < length (map (λ r. r.members) rows) → (0 < get_or (map (λ r. r.members) rows) i 0)
        × (get_or (map (λ r. r.members) rows) i 0 < 2 ^ winners_in z)
    set i lt = let l = length-map rows (λ r. r.members) in let k : i < length rows = omega arith in rw (bits-are rows i k) ((far.given i k).members)

    below : length (map (λ r. r.members) rows) ≤ 2 ^ winners_in z
    below = length-le_from_distinct_below (map (λ r. r.members) rows) (2 ^ winners_in z) far.distinct
        (λ q e. (any-below (map (λ r. r.members) rows) (2 ^ winners_in z) q set e).1)

    none : (rows : List Row) → ((i : ℕ) → i < length rows → (0 < (row_at rows i).members) × ((row_at rows i).members < 1)) → length rows ≡ 0
    none [] h = refl
    none (r ∷ rows) h = let k = h 0 (omega arith) in absurd (omega (arith, k.0, k.1))

    by : (winners_in z ≡ 0) ⊎ (winners_in z ≢ 0) → length past < 2 ^ winners_in z
    by (inl e) =
        let p : 2 ^ winners_in z ≡ 1 = ap (λ n. 2 ^ n) e in
        let q = none rows (λ i lt. subst (λ n. (0 < (row_at rows i).members) × ((row_at rows i).members < n)) p ((far.given i lt).members)) in
        omega (arith, far.count, p, q)
    by (inr d) = let l = length-map rows (λ r. r.members) in omega (arith, below, far.count, d)

-- the rows so far meet the conditions of the search for a point
pub can-solve : (m : Market) (z : List ℕ) (prices : List ℤ) (weights : List ℕ) → CanTurn m z prices weights
    → (rows : List Row) (choices : List (List ℕ)) (past : List Turn) → IsSoFar m z weights rows choices past → IsProblem prices (weights_in z weights) rows
can-solve m z prices weights can rows choices past far = record {
  few = omega (arith, can.few.0, can.long);
  weighed = subst (λ n. AreWeights n (weights_in z weights)) (sym can.long) can.weighing.own;
  members = λ i lt. subst (λ w. (0 < (row_at rows i).members) × ((row_at rows i).members < 2 ^ w)) (sym can.long) ((far.given i lt).members);
  singles = λ j lt. far.singles j (omega (arith, can.long));
  targets = can.targets;
  row_bounds = far.row_bounds;
  sizes = by can.few.1;
}
  where
    narrow : winners_in z ≤ 4 → IsNarrow prices rows
    narrow four = record {
      few = omega (arith, four, can.long);
      sum = let s = can.sum in let w = can.worth in omega (arith, ints, s, w, four);
      small = λ i lt. (let s = far.below_value i lt in let w = can.worth in omega (arith, ints, s, w, four));
    }

    by : WeighAlike z weights ⊎ (winners_in z ≤ 4) → AreOnes (length prices) (weights_in z weights) ⊎ IsNarrow prices rows
    by (inl ones) = inl (subst (λ n. AreOnes n (weights_in z weights)) (sym can.long) ones)
    by (inr four) = inr (narrow four)

-- a turn with its answer
module _ (m : Market) (lawful : IsMarket m) (z : List ℕ) (win : IsWinning m z) (prices : List ℤ) (weights : List ℕ) (can : CanTurn m z prices weights)
    (rows : List Row) (choices : List (List ℕ)) (past : List Turn) (far : IsSoFar m z weights rows choices past)
    (den : ℤ) (at first second : List ℤ) (answer : IsShownNearest prices (weights_in z weights) rows den at first second) where
  len : length z ≡ m.bidders
  len = lawful.lengths z win.passed

  -- the denominator of the answer is positive
  pub den-positive : pos 1 ≤ℤ den
  den-positive = let p = answer.meets.positive in omega (arith, ints)

  above : (i : ℕ) → i < length rows → (den *ℤ bounds rows i) ≤ℤ dot (winners_in z) (coefficients rows i) (nth at)
  above = (meets m z len weights can.weighing prices can.long rows den at first second answer).above

  priced : (v : ℕ → ℤ) → AreVickreyPrices m z v → (k : ℕ) → k < m.bidders → v (suc k) ≡ of_bidder (for_bidders z prices) (suc k)
  priced v ps k lt = vickrey-one m z (suc k) (v (suc k)) (of_bidder (for_bidders z prices) (suc k)) (ps (suc k) (omega arith) (omega arith))
      (can.vickrey (suc k) (omega arith) (omega arith))

  -- no price is negative, as the single rows are among the rows
  pub at-nonneg : (j : ℕ) → j < winners_in z → pos 0 ≤ℤ nth at j
  at-nonneg j lt =
      let s = far.singles j lt in
      let h = above s.0 s.1 in
      let e : dot (winners_in z) (coefficients rows s.0) (nth at) ≡ nth at j = ap (λ b. dot (winners_in z) (holds b) (nth at)) s.2
      ∙ dot_single (winners_in z) j (nth at) lt in
      let p = mul_nonneg den (bounds rows s.0) (let d = den-positive in omega (arith, ints)) (far.row_bounds.not_negative s.0 s.1) in
      omega (arith, ints)

  -- the set of a block's row was no row
  row-new : (b : Block) → IsBlock m z den (for_bidders z at) b → (i : ℕ) → i < length rows → (row_at rows i).members ≢ b.row.members
  row-new b block i lt e = row-is_new m z len den at den-positive b.row.members (row_at rows i) (choice_at choices i) b.choice b.excess (far.given i lt)
      (above i lt) block.block.taken block.block.some (sym e)

  still-distinct : (b : Block) → IsBlock m z den (for_bidders z at) b → IsDistinct eqb (map (λ r. r.members) (rows ++ b.row ∷ []))
  still-distinct b block = rw (map-append (λ r. r.members) rows (b.row ∷ [])) (IsDistinct-push nat_eq_equiv
      (map (λ r. r.members) rows) b.row.members far.distinct
      (any-none (map (λ r. r.members) rows) b.row.members (λ i lt e. (let l = length-map rows (λ r. r.members) in let k : i < length rows = omega arith in
      row-new b block i k (sym (bits-are rows i k) ∙ e)))))

  -- the bound of a block's row lies between 0 and the worth of the winners
  bound-range : (b : Block) → IsBlock m z den (for_bidders z at) b → (pos 0 ≤ℤ b.row.bound) × (b.row.bound ≤ℤ pos (2 ^ 46)) × (b.row.bound ≤ℤ value_of m z)
  bound-range b block =
      let e = excess-row m z len den at b.row.members b.choice in
      let r = block.block.taken.reached in
      let a = block.block.some in
      let o : pos 0 ≤ℤ dot (winners_in z) (holds b.row.members) (nth at) = total-nonneg (winners_in z) (λ j. holds b.row.members j *ℤ nth at j)
      (λ j lt. mul_nonneg (holds b.row.members j) (nth at j) (holds_nonneg b.row.members j) (at-nonneg j lt)) in
      let g = ap (λ (x : ℤ). den *ℤ x) block.block.bound in
      let low = cancel_nonneg den b.row.bound answer.meets.positive (omega (arith, ints)) in
      let v = win.greatest b.choice block.block.taken.allowed in
      let s = over-is (λ j. not (has_member z b.row.members j)) (worth_in m z) m.bidders in
      let n = total-nonneg m.bidders (λ k. cond (not (has_member z b.row.members (suc k))) (worth_in m z (suc k)) (pos 0))
      (λ k lt. part (not (has_member z b.row.members (suc k))) (worth_in m z (suc k)) (won-low m lawful z win.passed (suc k) (omega arith) (omega arith)).0) in
      let is = block.block.bound in
      let w = can.worth in
      let f = can.few.0 in
      (low, omega (arith, ints), omega (arith, ints))
    where
      part : (b : Bool) (x : ℤ) → pos 0 ≤ℤ x → pos 0 ≤ℤ (cond b x (pos 0))
      part true x h = h
      part false x h = omega (arith, ints)

  of-ones : WeighAlike z weights → den <ℤ pos (2 ^ 32)
  of-ones ones = answer.den_of_ones (subst (λ n. AreOnes n (weights_in z weights)) (sym can.long) ones)

  -- its excess is at most what the row asks for
  excess-range : (b : Block) → IsBlock m z den (for_bidders z at) b → (pos 0 ≤ℤ b.excess) × (b.excess ≤ℤ pos (2 ^ 80))
  excess-range b block =
      let e = excess-row m z len den at b.row.members b.choice in
      let r = block.block.taken.reached in
      let a = block.block.some in
      let g = ap (λ (x : ℤ). den *ℤ x) block.block.bound in
      let o : pos 0 ≤ℤ dot (winners_in z) (holds b.row.members) (nth at) = total-nonneg (winners_in z) (λ j. holds b.row.members j *ℤ nth at j)
      (λ j lt. mul_nonneg (holds b.row.members j) (nth at j) (holds_nonneg b.row.members j) (at-nonneg j lt)) in
      let bound = bound-range b block in
      let p = small-product den b.row.bound (let d = den-positive in omega (arith, ints)) answer.small_den bound.0 bound.1 in
      (omega (arith, ints), omega (arith, ints))

  -- the turn with its block
  point_of-turn : (b : Block) → IsBlock m z den (for_bidders z at) b → IsPointOfTurn z weights (record { den = den; at = at; block = Some b })
  point_of-turn b block = record {
    den_positive = den-positive;
    den_small = answer.small_den;
    den_of_ones = of-ones;
    winners = answer.long_at ∙ can.long;
    not_negative = at-nonneg;
    small = answer.small_at;
    excess = (excess-range b block).0;
    small_excess = (excess-range b block).1;
  }

  -- one turn more
  pub next : (b : Block) → IsBlock m z den (for_bidders z at) b → (turn : Turn) → turn ≡ record { den = den; at = at; block = Some b }
      → IsSoFar m z weights (rows ++ b.row ∷ []) (choices ++ b.choice ∷ []) (past ++ turn ∷ [])
  next b block turn is = record {
    count = let l = length-append rows (b.row ∷ []) in let k = length-append past (turn ∷ []) in let c = far.count in omega arith;
    long = let l = length-append rows (b.row ∷ []) in let k = length-append choices (b.choice ∷ []) in let c = far.long in omega arith;
    given = λ i lt. row i (inside i lt);
    distinct = still-distinct b block;
    row_bounds = record { not_negative = λ i lt. (limit i (inside i lt)).0; small = λ i lt. (limit i (inside i lt)).1 };
    below_value = λ i lt. (limit i (inside i lt)).2;
    singles = λ j lt. (let q = far.singles j lt in (
      q.0,
      let l = length-append rows (b.row ∷ []) in omega (arith, q.1),
      ap (λ (x : Row). x.members) (old q.0 q.1) ∙ q.2,
    ));
    each = each-push (IsPointOfTurn z weights) past turn far.each (subst (IsPointOfTurn z weights) (sym is) (point_of-turn b block));
    run = λ v ps rest go. subst (λ l. GoOn m (weight_of weights) z v (single_rows v 0 z) l) (turns-more rest)
        (far.run v ps (turn_of z turn ∷ rest) (rw is (
          turn-point m z len rows weights can.weighing prices can.long den at first second answer v (priced v ps),
          (block.block, subst (λ l. GoOn m (weight_of weights) z v l rest) (map-append (row_in z) rows (b.row ∷ [])) go),
        )));
  }
    where
      inside : (i : ℕ) → i < length (rows ++ b.row ∷ []) → (i < length rows) ⊎ (i ≡ length rows)
      inside i lt = lt_or i (length rows) (let l = length-append rows (b.row ∷ []) in omega arith)

      turns-more : (rest : List BidderTurn) → turns_of z past ++ turn_of z turn ∷ rest ≡ turns_of z (past ++ turn ∷ []) ++ rest
      turns-more rest = sym (append_assoc (turns_of z past) (turn_of z turn ∷ []) rest) ∙ ap (λ l. l ++ rest) (sym (map-append (turn_of z) past (turn ∷ [])))

      old : (i : ℕ) → i < length rows → row_at (rows ++ b.row ∷ []) i ≡ row_at rows i
      old i lt = get_or-append rows (b.row ∷ []) (record { members = 0; bound = pos 0 }) i lt

      new : (i : ℕ) → i ≡ length rows → row_at (rows ++ b.row ∷ []) i ≡ b.row
      new i e = ap (λ k. row_at (rows ++ b.row ∷ []) k) e ∙ get_or-append_seam rows b.row [] (record { members = 0; bound = pos 0 })

      row : (i : ℕ) → (i < length rows) ⊎ (i ≡ length rows) → IsGivenBy m z (row_at (rows ++ b.row ∷ []) i) (choice_at (choices ++ b.choice ∷ []) i)
      row i (inl lt) =
          let c : choice_at (choices ++ b.choice ∷ []) i ≡ choice_at choices i = get_or-append choices (b.choice ∷ []) [] i (omega (arith, far.long)) in
          subst (λ (x : Row). IsGivenBy m z x (choice_at (choices ++ b.choice ∷ []) i)) (sym (old i lt))
          (subst (λ f. IsGivenBy m z (row_at rows i) f) (sym c) (far.given i lt))
      row i (inr e) =
          let c : choice_at (choices ++ b.choice ∷ []) i ≡ b.choice = ap (λ k. choice_at (choices ++ b.choice ∷ []) k) (e ∙ sym far.long)
          ∙ get_or-append_seam choices b.choice [] [] in
          subst (λ (x : Row). IsGivenBy m z x (choice_at (choices ++ b.choice ∷ []) i)) (sym (new i e))
          (subst (λ f. IsGivenBy m z b.row f) (sym c) (block-row m z (point_of z den at) den-positive b.choice b.row b.excess block.block.taken
          block.members block.block.bound))

      limit : (i : ℕ) → (i < length rows) ⊎ (i ≡ length rows) → (pos 0 ≤ℤ bounds (rows ++ b.row ∷ []) i) × (bounds (rows ++ b.row ∷ []) i ≤ℤ pos (2 ^ 46))
          × (bounds (rows ++ b.row ∷ []) i ≤ℤ value_of m z)
      limit i (inl lt) = subst (λ (x : Row). (pos 0 ≤ℤ x.bound) × (x.bound ≤ℤ pos (2 ^ 46)) × (x.bound ≤ℤ value_of m z)) (sym (old i lt))
          (far.row_bounds.not_negative i lt, far.row_bounds.small i lt, far.below_value i lt)
      limit i (inr e) = subst (λ (x : Row). (pos 0 ≤ℤ x.bound) × (x.bound ≤ℤ pos (2 ^ 46)) × (x.bound ≤ℤ value_of m z)) (sym (new i e)) (bound-range b block)

  -- the last turn ends the run
  pub ends : IsLowest den at first second → IsUnblocked m z (point_of z den at) → HasEnded m z prices weights rows choices
      (past ++ last_turn den at ∷ []) den at first second
  ends lowest free = record {
    long = far.long;
    given = far.given;
    distinct = far.distinct;
    answer = answer;
    not_negative = at-nonneg;
    lowest = lowest;
    each = each-push (IsPointOfTurn z weights) past (last_turn den at) far.each (record {
      den_positive = den-positive;
      den_small = answer.small_den;
      den_of_ones = of-ones;
      winners = answer.long_at ∙ can.long;
      not_negative =
          at-nonneg;
      small = answer.small_at;
      excess = tt;
      small_excess = tt;
    });
    few_turns = let l = length-append past (last_turn den at ∷ []) in let t = turns-few m z weights rows choices past far in omega arith;
    last = (past, refl);
    free = free;
    run = λ v ps. subst (λ l. GoOn m (weight_of weights) z v (single_rows v 0 z) l) (sym (map-append (turn_of z) past (last_turn den at ∷ [])))
        (far.run v ps (turn_of z (last_turn den at) ∷ []) (
          turn-point m z len rows weights can.weighing prices can.long den at first second answer v
              (priced v ps),
          (refl, none),
        ));
  }
    where
      none : IsGreatestExcess m z (point_of z den at) (pos 0)
      none s f ok idle = free-excess m lawful z (point_of z den at) free f ok s (λ j q le u. idle-outside m z f s idle j q le u)
