-- The tests of the multipliers, from the totals.
use Rattle.std.proofs.Common.{◌≡◌, ℕ, zero, suc, ◌-◌, ◌<◌, ◌≤◌, List, [], ◌∷◌, length, take, get_or, refl, ◌∙◌, arith, length-take}
use Rattle.std.specs.Prelude.{ℤ, pos}
use Rattle.cert_grammar.specs.Certificate.{CertValue}
use Rattle.cert_check.specs.Columns.{AreFirsts, AreFirstSums, AreSeconds, AreSecondSums}
use Rattle.stream_check.specs.declared.row_totals.RowTotals.{RowTotals}
use Rattle.stream_check.specs.Totals.{AreTotals}

-- one of the first numbers
take-at : (n k : ℕ) (xs : List ℤ) → k < n → get_or (take n xs) k (pos 0) ≡ get_or xs k (pos 0)
take-at zero k xs lt = absurd (omega (arith, lt))
take-at (suc n) k [] lt = refl
take-at (suc n) zero (x ∷ xs) lt = refl
take-at (suc n) (suc k) (x ∷ xs) lt = take-at n k xs (omega (arith, lt))

module _ (c : CertValue) (t : RowTotals) (are : AreTotals c (length c.rows) t) where
  -- the totals count all rows
  pub count-is : t.count ≡ length c.rows
  count-is = are.count

  -- their first numbers are the first multipliers of the rows
  pub firsts-are : length c.rows ≤ length t.firsts → AreFirsts c.rows (take t.count t.firsts)
  firsts-are few = record {
    count = omega (arith, length-take t.count t.firsts, are.count, few);
    each = λ r some le. take-at t.count (r - 1) t.firsts (omega (arith, some, le, are.count)) ∙ are.firsts r some le;
  }

  -- their second numbers are the second multipliers of the rows
  pub seconds-are : length c.rows ≤ length t.seconds → AreSeconds c.rows (take t.count t.seconds)
  seconds-are few = record {
    count = omega (arith, length-take t.count t.seconds, are.count, few);
    each = λ r some le. take-at t.count (r - 1) t.seconds (omega (arith, some, le, are.count)) ∙ are.seconds r some le;
  }

  -- their first sums are those of the first multipliers, bidder by bidder
  pub first-sums : (b : ℕ) → b ≤ 16 → AreFirstSums b c.rows t.first_sums
  first-sums b few j some le = are.first_sums j some (omega (arith, le, few))

  -- their second sums are those of the second multipliers, bidder by bidder
  pub second-sums : (b : ℕ) → b ≤ 16 → AreSecondSums b c.rows t.second_sums
  second-sums b few j some le = are.second_sums j some (omega (arith, le, few))
