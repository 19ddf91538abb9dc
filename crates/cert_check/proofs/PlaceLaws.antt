-- What the tests ask at each place, and that they ask nothing elsewhere.
use Rattle.std.specs.Prelude.{◌≡◌, ℕ, suc, ◌+◌, ◌≤◌, ◌<◌, ◌↔◌, Bool, IsTrue, length, slice_index_or, ℤ, pos, ◌+ℤ◌, ◌-ℤ◌, ◌*ℤ◌, ◌≤ℤ◌, ◌<ℤ◌, ◌⊎◌}
use Rattle.std.proofs.Common.{sym, ◌∙◌, ap, subst, arith}
use Rattle.std.proofs.lemmas.Bool.{and_parts, and_from, both_ways}
use Rattle.auction_model.specs.Book.{Book, bids_of, menu_of}
use Rattle.auction_model.specs.Lowered.{of_bidder}
use Rattle.auction_model.specs.Market.{uses}
use Rattle.auction_model.specs.Menu.{fits_after, is_known_after}
use Rattle.cert_grammar.specs.Certificate.{CertValue, RowValue, row_of}
use Rattle.cert_soundness.specs.Tests.{C2, C5, C6, C7, C8, IsTightRow, bidders_of, sum_holding, vickrey_of, won}
use Rattle.cert_soundness.proofs.Winning.{known_from}
use Rattle.cert_check.specs.Head.{HoldsBefore}

module _ (book : Book) (c : CertValue) where
  -- if C2 holds at the places of all bidders, the choice is known
  pub known-before : (place : ℕ) → length c.choice ≡ bidders_of book → bidders_of book < place → HoldsBefore (C2 book c) place
      → IsTrue (is_known_after (menu_of book) 0 c.choice)
  known-before place length_is past before =
      known_from (menu_of book) 0 c.choice (omega (arith, length_is))
      (λ n lt. subst (λ (x : ℕ). slice_index_or c.choice x 0 ≤ length (bids_of book (suc (0 + n)))) (omega arith)
      ((before (suc (0 + n)) (omega (arith, length_is))).known (omega arith) (omega (arith, length_is))))

  -- at the place after the bidders C2 asks whether a known choice fits
  pub fits-C2 : (place : ℕ) (b : Bool) → place ≡ bidders_of book + 1 → IsTrue (is_known_after (menu_of book) 0 c.choice)
      → b ≡ fits_after (menu_of book) 0 book.supply c.choice → IsTrue b ↔ C2 book c place
  fits-C2 place b here known is = (
    λ t. record {
      known = λ some le. absurd (omega (arith, here));
      fits = λ e. (and_parts (is_known_after (menu_of book) 0 c.choice) _ (sym is ∙ t)).1;
      value = λ e. absurd (omega (arith, here, e));
    },
    λ h. is ∙ and_from (is_known_after (menu_of book) 0 c.choice) _ known (h.fits here),
  )

  -- after the bidders and two places more C2 asks nothing
  pub past-C2 : (place : ℕ) → bidders_of book + 3 ≤ place → C2 book c place
  past-C2 place past = record { known = λ some le. absurd (omega arith); fits = λ e. absurd (omega (arith, e)); value = λ e. absurd (omega (arith, e)) }

  -- after the bidders C5 asks nothing
  pub past-C5 : (place : ℕ) → bidders_of book + 1 ≤ place → C5 book c place
  past-C5 place past = record { winner = λ some le wins. absurd (omega arith); loser = λ some le loses. absurd (omega arith) }

  -- after the rows C6 asks nothing
  pub past-C6 : (place : ℕ) → length c.rows + 1 ≤ place → C6 book c place
  past-C6 place past = record { row = λ some le. absurd (omega arith) }

  -- after the rows and the bidders C7 asks nothing
  pub past-C7 : (place : ℕ) → length c.rows + bidders_of book + 1 ≤ place → C7 book c place
  past-C7 place past = record { sign = λ some le. absurd (omega arith); columns = λ j some le e wins. absurd (omega (arith, e)) }

  -- after the rows and the bidders C8 asks nothing
  pub past-C8 : (w : ℕ → ℕ) (place : ℕ) → length c.rows + bidders_of book + 1 ≤ place → C8 book w c place
  past-C8 w place past = record { sign = λ some le. absurd (omega arith); columns = λ j some le e wins. absurd (omega (arith, e)) }

  -- of a winner C5 asks that it pays at least 0 and no more than the denominator times its bid
  pub winner-C5 : (j : ℕ) (paid most : ℤ) (b : Bool) → 0 < j → j ≤ bidders_of book → IsTrue (uses c.choice j) → paid ≡ of_bidder c.pay j
      → most ≡ c.den *ℤ won book c j
      → (IsTrue b ↔ ((pos 0 ≤ℤ paid) × (paid ≤ℤ most))) → IsTrue b ↔ C5 book c j
  winner-C5 j paid most b some le wins paid_is most_is test = (
    λ t. record {
      winner = λ s l w. (
        subst (λ (z : ℤ). pos 0 ≤ℤ z) paid_is (test.0 t).0,
        subst (λ (z : ℤ). of_bidder c.pay j ≤ℤ z) most_is
            (subst (λ (z : ℤ). z ≤ℤ most) paid_is (test.0 t).1),
      );
      loser = λ s l loses. absurd (both_ways (uses c.choice j) loses wins);
    },
    λ h. let two = h.winner some le wins in test.1 (
      subst (λ (z : ℤ). pos 0 ≤ℤ z) (sym paid_is) two.0,
      subst (λ (z : ℤ). paid ≤ℤ z) (sym most_is) (subst (λ (z : ℤ). z ≤ℤ (c.den *ℤ won book c j)) (sym paid_is) two.1),
    ),
  )

  -- at the place of a row C6 asks whether it is tight
  pub row-C6 : (place : ℕ) (row : RowValue) (b : Bool) → 0 < place → place ≤ length c.rows → row_of c.rows place ≡ row → (IsTrue b ↔ IsTightRow book c row)
      → IsTrue b ↔ C6 book c place
  row-C6 place row b some le same test = (
    λ t. record { row = λ s l. subst (IsTightRow book c) (sym same) (test.0 t) },
    λ h. test.1 (subst (IsTightRow book c) same (h.row some le)),
  )

  -- at the place of a row C7 asks whether its first multiplier is at least 0
  pub sign-C7 : (place : ℕ) (row : RowValue) (b : Bool) → 0 < place → place ≤ length c.rows → row_of c.rows place ≡ row → (IsTrue b ↔ (pos 0 ≤ℤ row.first))
      → IsTrue b ↔ C7 book c place
  sign-C7 place row b some le same test = (
    λ t. record {
      sign = λ s l. subst (λ (r : RowValue). pos 0 ≤ℤ r.first) (sym same) (test.0 t);
      columns = λ j s l e wins. absurd (omega (arith, e, le, s));
    },
    λ h. test.1 (subst (λ (r : RowValue). pos 0 ≤ℤ r.first) same (h.sign some le)),
  )

  -- after the rows C7 asks whether the first multipliers of the rows of a winner sum to the denominator
  pub sum-C7 : (place j : ℕ) (b : Bool) → place ≡ length c.rows + j → 0 < j → j ≤ bidders_of book
      → (IsTrue b ↔ (IsTrue (uses c.choice j) → sum_holding c.rows j (λ row. row.first) (length c.rows) ≡ c.den)) → IsTrue b ↔ C7 book c place
  sum-C7 place j b here some le test = (
    λ t. record {
      sign = λ s l. absurd (omega (arith, here, some));
      columns = λ i si li e.
          let same : j ≡ i = omega (arith, here, e) in
          subst (λ (n : ℕ). IsTrue (uses c.choice n) → sum_holding c.rows n (λ row. row.first) (length c.rows) ≡ c.den) same (test.0 t);
    },
    λ h. test.1 (h.columns j some le here),
  )

  -- at the place of a row C8 asks whether its first multiplier is above 0 or its second at least 0
  pub sign-C8 : (w : ℕ → ℕ) (place : ℕ) (row : RowValue) (b : Bool) → 0 < place → place ≤ length c.rows → row_of c.rows place ≡ row
      → (IsTrue b ↔ ((pos 0 <ℤ row.first) ⊎ (pos 0 ≤ℤ row.second))) → IsTrue b ↔ C8 book w c place
  sign-C8 w place row b some le same test = (
    λ t. record {
      sign = λ s l. subst (λ (r : RowValue). (pos 0 <ℤ r.first) ⊎ (pos 0 ≤ℤ r.second)) (sym same) (test.0 t);
      columns = λ j s l e wins. absurd (omega (arith, e, le, s));
    },
    λ h. test.1 (subst (λ (r : RowValue). (pos 0 <ℤ r.first) ⊎ (pos 0 ≤ℤ r.second)) same (h.sign some le)),
  )

  -- after the rows C8 asks whether the weighted sum of second multipliers is the way from the Vickrey price
  pub sum-C8 : (w : ℕ → ℕ) (place j : ℕ) (b : Bool) → place ≡ length c.rows + j → 0 < j → j ≤ bidders_of book
      → (IsTrue b ↔ (IsTrue (uses c.choice j) → (of_bidder c.pay j -ℤ (c.den *ℤ vickrey_of book c j)) ≡ pos (w j) *ℤ sum_holding c.rows j (λ row. row.second)
      (length c.rows))) → IsTrue b ↔ C8 book w c place
  sum-C8 w place j b here some le test = (
    λ t. record {
      sign = λ s l. absurd (omega (arith, here, some));
      columns = λ i si li e.
          let same : j ≡ i = omega (arith, here, e) in
          subst (λ (n : ℕ). IsTrue (uses c.choice n) → (of_bidder c.pay n -ℤ (c.den *ℤ vickrey_of book c n)) ≡ pos (w n) *ℤ sum_holding c.rows n
          (λ row. row.second) (length c.rows)) same (test.0 t);
    },
    λ h. test.1 (h.columns j some le here),
  )

-- what is asked of a winner, by equal numbers
pub nearest-same : (b u : Bool) (den value won k pay other_pay without other sum other_sum : ℤ) → pay ≡ other_pay → (IsTrue u → without ≡ other)
    → sum ≡ other_sum
    → IsTrue b ↔ (IsTrue u → pay -ℤ (den *ℤ ((without -ℤ value) +ℤ won)) ≡ k *ℤ sum)
    → IsTrue b ↔ (IsTrue u → other_pay -ℤ (den *ℤ ((other -ℤ value) +ℤ won)) ≡ k *ℤ other_sum)
nearest-same b u den value won k pay other_pay without other sum other_sum e f g h = (
  λ t w. one w (h.0 t w),
  λ all. h.1 (λ w. back w (all w)),
)
  where
    left : IsTrue u → pay -ℤ (den *ℤ ((without -ℤ value) +ℤ won)) ≡ other_pay -ℤ (den *ℤ ((other -ℤ value) +ℤ won))
    left w = ap (λ (z : ℤ). z -ℤ (den *ℤ ((without -ℤ value) +ℤ won))) e ∙ ap (λ (z : ℤ). other_pay -ℤ (den *ℤ ((z -ℤ value) +ℤ won))) (f w)

    right : k *ℤ sum ≡ k *ℤ other_sum
    right = ap (λ (z : ℤ). k *ℤ z) g

    one : IsTrue u → pay -ℤ (den *ℤ ((without -ℤ value) +ℤ won)) ≡ k *ℤ sum → other_pay -ℤ (den *ℤ ((other -ℤ value) +ℤ won)) ≡ k *ℤ other_sum
    one w q = sym (left w) ∙ q ∙ right

    back : IsTrue u → other_pay -ℤ (den *ℤ ((other -ℤ value) +ℤ won)) ≡ k *ℤ other_sum → pay -ℤ (den *ℤ ((without -ℤ value) +ℤ won)) ≡ k *ℤ sum
    back w q = left w ∙ q ∙ sym right
