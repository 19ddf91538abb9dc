-- All that pricing promises, from where the turns end.
use Rattle.std.specs.Prelude.{◌≡◌, ℕ, ◌^◌, ◌<◌, ◌≤◌, true, List, length, ℤ}
use Rattle.std.specs.List.{AllByRecursion}
use Rattle.std.proofs.Common.{sym, ◌∙◌, ap, subst, arith}
use Rattle.auction_model.specs.Market.{Market}
use Rattle.auction_model.specs.Greatest.{IsWinning}
use Rattle.auction_model.specs.Lawful.{IsMarket}
use Rattle.far_num.specs.declared.Row.{Row}
use Rattle.nearest_point.specs.Numbers.{AreBelow}
use Rattle.nearest_point.specs.Problem.{bounds, coefficients, weight_at}
use Rattle.projection_laws.specs.Multipliers.{AreFirst, AreSecond, SumsTo}
use Rattle.core_laws.specs.Winners.{winners_in}
use Rattle.wide_num.specs.Sums.{nth}
use Rattle.core_price.specs.Kept.{AreAmong, IsKept, firsts, is_used, rows_in, seconds}
use Rattle.core_price.specs.Lowest.{IsLowest}
use Rattle.core_price.specs.SoFar.{CanTurn, HasEnded}
use Rattle.core_laws.specs.Weights.{weights_in}
use Rattle.core_price.specs.declared.priced.PricedRow.{PricedRow}
use Rattle.core_price.specs.declared.priced.Turn.{Turn}
use Rattle.core_price.proofs.KeptCount.{kept-count, kept-seconds_below}
use Rattle.core_price.proofs.KeptLaws.{entry}
use Rattle.core_price.proofs.KeptSums.{AreLong, first_sum, kept-among, kept-each, kept-first, kept-lowest, kept-second, kept_of, tight-used}
use Rattle.core_price.proofs.Points.{firsts as first-of, seconds as second-of, sums as sums-of}

module _ (m : Market) (lawful : IsMarket m) (z : List ℕ) (win : IsWinning m z) (prices : List ℤ) (weights : List ℕ) (can : CanTurn m z prices weights)
    (rows : List Row) (choices : List (List ℕ)) (turns : List Turn) (den : ℤ) (at first second : List ℤ)
    (ended : HasEnded m z prices weights rows choices turns den at first second) (kept : List PricedRow) (is : kept ≡ kept_of rows choices first second) where
  len : length z ≡ m.bidders
  len = lawful.lengths z win.passed

  long : AreLong rows choices first second
  long = record { choices_long = ended.long; first_long = ended.answer.long_first; second_long = ended.answer.long_second }

  one : AreFirst (winners_in z) (length rows) (coefficients rows) (bounds rows) den (nth at) (nth first)
  one = first-of m z len weights can.weighing prices can.long rows den at first second ended.answer

  two : AreSecond (winners_in z) (length rows) (coefficients rows) (bounds rows) den (nth at) (nth first) (nth second) (nth prices)
      (weight_at (weights_in z weights))
  two = second-of m z len weights can.weighing prices can.long rows den at first second ended.answer

  -- the last point has a payment for each winner
  pub long-at : length at ≡ winners_in z
  long-at = ended.answer.long_at ∙ can.long

  -- the kept rows are among all rows with their choices, in their order
  pub in-order : (all : List Row) (all_choices : List (List ℕ)) → rows ≡ all → choices ≡ all_choices → AreAmong all all_choices kept
  in-order all all_choices r c = subst (λ k. AreAmong all all_choices k) (sym is)
      (subst (λ l. AreAmong l all_choices (kept_of rows choices first second)) r
      (subst (λ l. AreAmong rows l (kept_of rows choices first second)) c (kept-among rows choices first second long)))

  -- each kept row is given by its choice, is tight at the last point, and has a multiplier that isn't 0
  pub are-kept : AllByRecursion (IsKept m z den at) kept
  are-kept = subst (λ k. AllByRecursion (IsKept m z den at) k) (sym is) (kept-each (IsKept m z den at) rows choices first second long
      (λ i lt u. kept-one i lt u))
    where
      kept-one : (i : ℕ) → i < length rows → is_used (entry rows choices first second i) ≡ true → IsKept m z den at (entry rows choices first second i)
      kept-one i lt u = let t = tight-used (winners_in z) rows choices first second long den (nth at) one (nth prices)
          (weight_at (weights_in z weights)) two i lt u in record { given = ended.given i lt; tight = t.0; used = t.1 }

  -- the kept rows have first multipliers for the last point
  pub are-first : AreFirst (winners_in z) (length kept) (coefficients (rows_in kept)) (bounds (rows_in kept)) den (nth at) (nth (firsts kept))
  are-first = subst (λ k. AreFirst (winners_in z) (length k) (coefficients (rows_in k)) (bounds (rows_in k)) den (nth at) (nth (firsts k))) (sym is)
      (kept-first (winners_in z) rows choices first second long den (nth at) one)

  -- at each winner the first multipliers of the kept rows come to den
  pub sum-first : SumsTo (winners_in z) (length kept) (coefficients (rows_in kept)) den (nth (firsts kept))
  sum-first = subst (λ k. SumsTo (winners_in z) (length k) (coefficients (rows_in k)) den (nth (firsts k))) (sym is)
      (λ j lt. first_sum (winners_in z) rows choices first second long den (nth at) j ∙ sums-of m z len weights can.weighing prices can.long rows den at first
      second ended.answer j lt)

  -- the kept rows have second multipliers for the last point, by the weights of the winners
  pub are-second : AreSecond (winners_in z) (length kept) (coefficients (rows_in kept)) (bounds (rows_in kept)) den (nth at) (nth (firsts kept))
      (nth (seconds kept)) (nth prices) (weight_at (weights_in z weights))
  are-second = subst (λ k. AreSecond (winners_in z) (length k) (coefficients (rows_in k)) (bounds (rows_in k)) den (nth at) (nth (firsts k)) (nth (seconds k))
      (nth prices) (weight_at (weights_in z weights))) (sym is) (kept-second (winners_in z) rows choices first second long den (nth at) one (nth prices)
      (weight_at (weights_in z weights)) two)

  -- nothing but 1 divides the last point and the multipliers of the kept rows
  pub lowest-kept : IsLowest den at (firsts kept) (seconds kept)
  lowest-kept = subst (λ k. IsLowest den at (firsts k) (seconds k)) (sym is) (kept-lowest rows choices first second long den at ended.lowest)

  -- no more rows are kept than there are winners
  pub few-kept : length kept ≤ winners_in z
  few-kept =
      let e = ap (λ (l : List PricedRow). length l) is in
      let count = kept-count rows choices first second long in
      omega (arith, e, count, ended.answer.few, can.long)

  -- the second multipliers of the kept rows are below 2^109 in size
  pub seconds-below : AreBelow (2 ^ 109) (seconds kept)
  seconds-below = subst (λ k. AreBelow (2 ^ 109) (seconds k)) (sym is) (kept-seconds_below (2 ^ 109) rows choices first second long ended.answer.small_second)
