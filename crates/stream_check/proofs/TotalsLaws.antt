-- The multipliers of the rows, and their sums, with one row more.
use Rattle.std.proofs.Common.{◌≡◌, ℕ, zero, suc, ◌+◌, ◌-◌, ◌*◌, ◌^◌, ◌<◌, ◌≤◌, List, [], ◌∷◌, length, get_or, inl, inr, refl, sym, ap, subst, ◌∙◌, arith, set}
use Rattle.std.proofs.lemmas.Bool.{cases_lt}
use Rattle.std.proofs.lemmas.Int.{ints}
use Rattle.std.proofs.lemmas.List.{length-set}
use Rattle.std.specs.Prelude.{ℤ, pos, ◌+ℤ◌, unsigned_abs, if◌then◌else◌}
use Rattle.auction_model.specs.Lowered.{of_bidder}
use Rattle.cert_grammar.specs.Certificate.{CertValue, RowValue, is_member, row_of}
use Rattle.cert_grammar.specs.CertText.{AreRows}
use Rattle.cert_soundness.specs.Tests.{sum_holding}
use Rattle.wide_num.specs.Sums.{nth}
use Rattle.cert_check.proofs.SumLaws.{rows-range, counted-size}
use Rattle.cert_check.proofs.Written.{AreWritten, written-more, written-all}
use Rattle.stream_check.specs.declared.row_totals.RowTotals.{RowTotals}
use Rattle.stream_check.specs.Totals.{AreTotals}

-- a sum of few numbers of the range is small
sum-small : (rows : List RowValue) (j : ℕ) (number : RowValue → ℤ) (n : ℕ) → ((r : ℕ) → 0 < r → r ≤ n → unsigned_abs (number (row_of rows r)) ≤ 2 ^ 120)
    → unsigned_abs (sum_holding rows j number n) ≤ n * 2 ^ 120
sum-small rows j number zero h = omega (arith, ints)
sum-small rows j number (suc n) h =
    let rest = sum-small rows j number n (λ r some le. h r some (omega (arith, le))) in
    let own = counted-size (is_member (row_of rows (suc n)).members j) (number (row_of rows (suc n))) (2 ^ 120) (h (suc n) (omega arith) (omega arith)) in
    added (sum_holding rows j number n) (if is_member (row_of rows (suc n)).members j then number (row_of rows (suc n)) else pos 0) n rest own
  where
    added : (x y : ℤ) (n : ℕ) → unsigned_abs x ≤ n * 2 ^ 120 → unsigned_abs y ≤ 2 ^ 120 → unsigned_abs (x +ℤ y) ≤ suc n * 2 ^ 120
    added x y n a b = omega (arith, ints, a, b)

-- the multipliers of the rows are in the range
rows-small : (b : ℕ) (rows : List RowValue) → AreRows b rows → (r : ℕ) → 0 < r → r ≤ length rows → (unsigned_abs (row_of rows r).first ≤ 2 ^ 120)
    × (unsigned_abs (row_of rows r).second ≤ 2 ^ 120)
rows-small b rows are r some le =
    let both = rows-range b rows (r - 1) (record { members = []; first = pos 0; second = pos 0; choice = [] }) are (omega (arith, some, le)) in
    (omega (arith, both.0), omega (arith, both.1))

-- after the end there is nothing
past-end : (xs : List ℤ) (k : ℕ) → length xs ≤ k → get_or xs k (pos 0) ≡ pos 0
past-end [] k le = refl
past-end (x ∷ xs) zero le = absurd (omega (arith, le))
past-end (x ∷ xs) (suc k) le = past-end xs k (omega (arith, le))

-- so numbers that are such sums are small
all-small : (sums : List ℤ) (f : ℕ → ℤ) (n : ℕ) → length sums ≡ 16 → n ≤ 10 → ((j : ℕ) → 0 < j → j ≤ 16 → of_bidder sums j ≡ f j)
    → ((j : ℕ) → unsigned_abs (f j) ≤ n * 2 ^ 120) → (k : ℕ) → unsigned_abs (nth sums k) ≤ 15 * 2 ^ 120
all-small sums f n long few are small k =
    elim (cases_lt k 16) [
      | inl lt ↦
          let back : k + 1 - 1 ≡ k = omega arith in
          let is : get_or sums k (pos 0) ≡ f (k + 1) = ap (λ (x : ℕ). get_or sums x (pos 0)) (sym back) ∙ are (k + 1) (omega arith) (omega (arith, lt)) in
          bounded (get_or sums k (pos 0)) (f (k + 1)) n is few (small (k + 1))
      | inr past ↦ none (get_or sums k (pos 0)) (past-end sums k (omega (arith, past, long)))
    ]
  where
    bounded : (x y : ℤ) (n : ℕ) → x ≡ y → n ≤ 10 → unsigned_abs y ≤ n * 2 ^ 120 → unsigned_abs x ≤ 15 * 2 ^ 120
    bounded x y n is few small = omega (arith, ints, is, few, small)

    none : (x : ℤ) → x ≡ pos 0 → unsigned_abs x ≤ 15 * 2 ^ 120
    none x is = omega (arith, ints, is)

module _ (c : CertValue) (n b : ℕ) (t : RowTotals) (are : AreTotals c n t) (rows : AreRows b c.rows) (inside : n < length c.rows)
    (few : length c.rows ≤ 10) where
  -- the sums of first multipliers are so small that one more fits
  pub first_sums-small : length t.first_sums ≡ 16 → (k : ℕ) → unsigned_abs (nth t.first_sums k) ≤ 15 * 2 ^ 120
  first_sums-small long =
      all-small t.first_sums (λ j. sum_holding c.rows j (λ row. row.first) n) n long (omega (arith, inside, few)) are.first_sums
      (λ j. sum-small c.rows j (λ row. row.first) n (λ r some le. (rows-small b c.rows rows r some (omega (arith, le, inside))).0))

  -- the sums of second multipliers are so small that one more fits
  pub second_sums-small : length t.second_sums ≡ 16 → (k : ℕ) → unsigned_abs (nth t.second_sums k) ≤ 15 * 2 ^ 120
  second_sums-small long =
      all-small t.second_sums (λ j. sum_holding c.rows j (λ row. row.second) n) n long (omega (arith, inside, few)) are.second_sums
      (λ j. sum-small c.rows j (λ row. row.second) n (λ r some le. (rows-small b c.rows rows r some (omega (arith, le, inside))).1))

-- one number more
number-more : (numbers : List ℤ) (f : ℕ → ℤ) (n : ℕ) (z : ℤ) → n < length numbers → ((r : ℕ) → 0 < r → r ≤ n → nth numbers (r - 1) ≡ f r) → z ≡ f (suc n)
    → (r : ℕ) → 0 < r → r ≤ suc n → nth (set numbers n z) (r - 1) ≡ f r
number-more numbers f n z inside are is r some le =
    let up : suc n ≡ n + 1 = omega arith in
    written-all f (set numbers n z) (n + 1) (suc n) (omega arith) (written-more f numbers n z inside written (is ∙ ap f up)) r some le
  where
    written : AreWritten f numbers n
    written k lt =
        let back : k ≡ k + 1 - 1 = omega arith in
        ap (λ (x : ℕ). get_or numbers x (pos 0)) back ∙ are (k + 1) (omega arith) (omega (arith, lt))

-- one row more
pub totals-more : (c : CertValue) (n : ℕ) (t u : RowTotals) (members : List ℕ) (first second : ℤ) → AreTotals c n t
    → (row_of c.rows (suc n)).members ≡ members → (row_of c.rows (suc n)).first ≡ first → (row_of c.rows (suc n)).second ≡ second
    → n < length t.firsts → n < length t.seconds → u.count ≡ n + 1 → u.firsts ≡ set t.firsts n first → u.seconds ≡ set t.seconds n second
    → ((j : ℕ) → 0 < j → j ≤ 16 → of_bidder u.first_sums j ≡ of_bidder t.first_sums j +ℤ (if is_member members j then first else pos 0))
    → ((j : ℕ) → 0 < j → j ≤ 16 → of_bidder u.second_sums j ≡ of_bidder t.second_sums j +ℤ (if is_member members j then second else pos 0))
    → AreTotals c (suc n) u
totals-more c n t u members first second are members_are first_is second_is long_firsts long_seconds count firsts seconds first_sums second_sums = record {
  count = omega (arith, count);
  long = (
    ap (λ (l : List ℤ). length l) firsts ∙ length-set t.firsts n first ∙ are.long.0,
    ap (λ (l : List ℤ). length l) seconds
        ∙ length-set t.seconds n second ∙ are.long.1,
  );
  firsts = λ r some le. subst (λ (l : List ℤ). nth l (r - 1) ≡ (row_of c.rows r).first) (sym firsts)
      (number-more t.firsts (λ r. (row_of c.rows r).first) n first long_firsts are.firsts (sym first_is) r some le);
  seconds = λ r some le. subst (λ (l : List ℤ). nth l (r - 1) ≡ (row_of c.rows r).second) (sym seconds)
      (number-more t.seconds (λ r. (row_of c.rows r).second) n second long_seconds are.seconds (sym second_is) r some le);
  first_sums = λ j some le. first_sums j some le ∙ sum (of_bidder t.first_sums j) (sum_holding c.rows j (λ row. row.first) n) j first
      (row_of c.rows (suc n)).first (are.first_sums j some le) (sym first_is);
  second_sums = λ j some le. second_sums j some le ∙ sum (of_bidder t.second_sums j) (sum_holding c.rows j (λ row. row.second) n) j second
      (row_of c.rows (suc n)).second (are.second_sums j some le) (sym second_is);
}
  where
    sum : (x y : ℤ) (j : ℕ) (z number : ℤ) → x ≡ y → z ≡ number → x +ℤ (if is_member members j then z else pos 0) ≡ y +ℤ
        (if is_member (row_of c.rows (suc n)).members j then number else pos 0)
    sum x y j z number same is =
        ap (λ (a : ℤ). a +ℤ (if is_member members j then z else pos 0)) same
        ∙ ap (λ (a : ℤ). y +ℤ (if is_member members j then a else pos 0)) is
        ∙ ap (λ (l : List ℕ). y +ℤ (if is_member l j then number else pos 0)) (sym members_are)

-- there is room for one more
pub inside : (n count m rows long : ℕ) → count ≡ n → count ≡ m → m < rows → rows ≤ 10 → long ≡ 10 → n < long
inside n count m rows long a b lt few is = omega (arith, a, b, lt, few, is)
