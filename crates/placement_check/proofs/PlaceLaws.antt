-- What the tests ask at each place, and that they ask nothing elsewhere.
use Rattle.std.specs.Prelude.{◌≡◌, ℕ, ◌+◌, ◌≤◌, ◌<◌, ◌↔◌, ◌⊎◌, Bool, not, IsTrue, IsFalse, List, length, ℤ, pos, ◌-ℤ◌, ◌*ℤ◌, ◌≤ℤ◌, ◌<ℤ◌}
use Rattle.std.proofs.Common.{sym, ◌∙◌, subst, arith}
use Rattle.std.proofs.lemmas.Bool.{both_ways}
use Rattle.std.proofs.lemmas.Int.{ints}
use Rattle.auction_model.specs.Lowered.{of_bidder}
use Rattle.auction_model.specs.Market.{Market, number_of, uses, value_of}
use Rattle.auction_model.specs.Prices.{sum_over}
use Rattle.cert_grammar.specs.Certificate.{CertValue, RowValue, is_member, part_of, row_of}
use Rattle.cert_soundness.specs.MarketTests.{IsTight, PaysWithinBids, ShowsLeastSum, ShowsNearest, sum_holding, vickrey_in, won_in}
use Rattle.slot_places.specs.Board.{market_of_slots}
use Rattle.slot_places.specs.Orders.{allows}
use Rattle.slot_places.specs.Slots.{SlotList, bids_of}
use Rattle.slot_places.proofs.OrderLaws.{allowed-by_order}
use Rattle.cert_grammar.specs.PlaceCert.{PlaceCertValue, order_in_row, order_without}
use Rattle.placement_check.specs.PlaceTests.{P2, P4, P6, IsPlacedPart}
use Rattle.placement_check.specs.Shown.{IsTightPlaced}

-- not one of the places 1 to n
abbrev pub IsPast : ℕ → ℕ → Type 0
IsPast n place = (0 < place) × (place ≤ n) → ⊥

module _ (m : Market) (c : CertValue) where
  -- P5 asks nothing at a place that is no bidder's
  pub pays-past : (place : ℕ) → IsPast m.bidders place → PaysWithinBids m c place
  pays-past place past = record { winner = λ some low wins. absurd (past (some, low)); loser = λ some low loses. absurd (past (some, low)) }

  -- P5 asks of a winner that it pays at least 0 and at most its bid
  pub pays-winner : (j : ℕ) (paid most : ℤ) (b : Bool) → 0 < j → j ≤ m.bidders → IsTrue (uses c.choice j) → paid ≡ of_bidder c.pay j
      → most ≡ c.den *ℤ won_in m c j
      → (IsTrue b ↔ ((pos 0 ≤ℤ paid) × (paid ≤ℤ most))) → IsTrue b ↔ PaysWithinBids m c j
  pays-winner j paid most b some le wins paid_is most_is test = (
    λ t. record {
      winner = λ s l w. (
        subst (λ (z : ℤ). pos 0 ≤ℤ z) paid_is (test.0 t).0,
        subst (λ (z : ℤ). of_bidder c.pay j ≤ℤ z) most_is
            (subst (λ (z : ℤ). z ≤ℤ most) paid_is (test.0 t).1),
      );
      loser = λ s l loses. absurd (both_ways (uses c.choice j) loses wins);
    },
    λ h. let two = h.winner some le wins in test.1 (
      subst (λ (z : ℤ). pos 0 ≤ℤ z) (sym paid_is) two.0,
      subst (λ (z : ℤ). paid ≤ℤ z) (sym most_is) (subst (λ (z : ℤ). z ≤ℤ (c.den *ℤ won_in m c j)) (sym paid_is) two.1),
    ),
  )

  -- P7 asks nothing at a place that is no row's and no bidder's
  pub first-past : (place : ℕ) → IsPast (length c.rows + m.bidders) place → ShowsLeastSum m c place
  first-past place past = record {
    sign = λ some le. absurd (past (some, omega (arith, le)));
    columns =
        λ j some le e wins. absurd (past (omega (arith, e, some), omega (arith, e, le)));
  }

  -- P7 asks of a row that its first multiplier isn't below 0
  pub first-sign : (place : ℕ) (row : RowValue) (b : Bool) → 0 < place → place ≤ length c.rows → row_of c.rows place ≡ row → (IsTrue b ↔ (pos 0 ≤ℤ row.first))
      → IsTrue b ↔ ShowsLeastSum m c place
  first-sign place row b some le same test = (
    λ t. record {
      sign = λ s l. subst (λ (r : RowValue). pos 0 ≤ℤ r.first) (sym same) (test.0 t);
      columns = λ j s l e wins. absurd (omega (arith, e, le, s));
    },
    λ h. test.1 (subst (λ (r : RowValue). pos 0 ≤ℤ r.first) same (h.sign some le)),
  )

  -- P7 asks of a winner that the first multipliers of the rows that contain it come to the denominator
  pub first-sum : (place j : ℕ) (b : Bool) → place ≡ length c.rows + j → 0 < j → j ≤ m.bidders
      → (IsTrue b ↔ (IsTrue (uses c.choice j) → sum_holding c.rows j (λ row. row.first) (length c.rows) ≡ c.den)) → IsTrue b ↔ ShowsLeastSum m c place
  first-sum place j b here some le test = (
    λ t. record {
      sign = λ s l. absurd (omega (arith, here, some, l));
      columns = λ i si li e.
          let same : j ≡ i = omega (arith, here, e) in
          subst (λ (n : ℕ). IsTrue (uses c.choice n) → sum_holding c.rows n (λ row. row.first) (length c.rows) ≡ c.den) same (test.0 t);
    },
    λ h. test.1 (h.columns j some le here),
  )

  -- P8 asks of a row that its first multiplier is above 0 or its second isn't below 0
  pub second-sign : (w : ℕ → ℕ) (place : ℕ) (row : RowValue) (b : Bool) → 0 < place → place ≤ length c.rows → row_of c.rows place ≡ row
      → (IsTrue b ↔ ((pos 0 <ℤ row.first) ⊎ (pos 0 ≤ℤ row.second))) → IsTrue b ↔ ShowsNearest m w c place
  second-sign w place row b some le same test = (
    λ t. record {
      sign = λ s l. subst (λ (r : RowValue). (pos 0 <ℤ r.first) ⊎ (pos 0 ≤ℤ r.second)) (sym same) (test.0 t);
      columns = λ j s l e wins. absurd (omega (arith, e, le, s));
    },
    λ h. test.1 (subst (λ (r : RowValue). (pos 0 <ℤ r.first) ⊎ (pos 0 ≤ℤ r.second)) same (h.sign some le)),
  )

  -- P8 asks of a winner that it pays above its Vickrey price the second multipliers of its rows, times its weight
  pub second-sum : (w : ℕ → ℕ) (place j : ℕ) (b : Bool) → place ≡ length c.rows + j → 0 < j → j ≤ m.bidders
      → (IsTrue b ↔ (IsTrue (uses c.choice j) → (of_bidder c.pay j -ℤ (c.den *ℤ vickrey_in m c j)) ≡ pos (w j) *ℤ sum_holding c.rows j (λ row. row.second)
      (length c.rows))) → IsTrue b ↔ ShowsNearest m w c place
  second-sum w place j b here some le test = (
    λ t. record {
      sign = λ s l. absurd (omega (arith, here, some, l));
      columns = λ i si li e.
          let same : j ≡ i = omega (arith, here, e) in
          subst (λ (n : ℕ). IsTrue (uses c.choice n) → (of_bidder c.pay n -ℤ (c.den *ℤ vickrey_in m c n)) ≡ pos (w n) *ℤ sum_holding c.rows n
          (λ row. row.second) (length c.rows)) same (test.0 t);
    },
    λ h. test.1 (h.columns j some le here),
  )

module _ (slots : SlotList) (p : PlaceCertValue) where
  -- P2 asks of a bidder that its number is 0 or that of one of its bids
  pub choice-known : (place : ℕ) (b : Bool) → 0 < place → place ≤ length slots.bidders
      → (IsTrue b ↔ (number_of p.cert.choice place ≤ length (bids_of slots place))) → IsTrue b ↔ P2 slots p place
  choice-known place b some low test = (
    λ t. record { known = λ s l. test.0 t; allowed = λ e. absurd (omega (arith, e, low)); value = λ e. absurd (omega (arith, e, low)) },
    λ h. test.1 (h.known some low),
  )

  -- P2 asks after the bidders that the order allows the choice
  pub choice-allowed : (place : ℕ) (b : Bool) → place ≡ length slots.bidders + 1 → b ≡ allows slots p.order p.cert.choice → IsTrue b ↔ P2 slots p place
  choice-allowed place b here is = (
    λ t. record { known = λ s l. absurd (omega (arith, here, l)); allowed = λ e. sym is ∙ t; value = λ e. absurd (omega (arith, here, e)) },
    λ h. is ∙ h.allowed here,
  )

  -- P4 asks nothing at a place that is no bidder's
  pub part-past : (place : ℕ) → IsPast (length slots.bidders) place → P4 slots p place
  part-past place past = record { part = λ some low wins. absurd (past (some, low)) }

  -- P4 asks nothing of a loser
  pub part-loser : (place : ℕ) → IsFalse (uses p.cert.choice place) → P4 slots p place
  part-loser place loses = record { part = λ some low wins. absurd (both_ways (uses p.cert.choice place) loses wins) }

  -- P4 asks of a winner that its part and the order beside it show the best choice without it
  pub part-winner : (place : ℕ) (b : Bool) → 0 < place → place ≤ length slots.bidders → IsTrue (uses p.cert.choice place)
      → (IsTrue b ↔ IsPlacedPart slots place (part_of p.cert.withouts place) (order_without p.cert.withouts p.part_orders place)) → IsTrue b ↔ P4 slots p place
  part-winner place b some low wins test = (
    λ t. record { part = λ s l w. test.0 t },
    λ h. test.1 (h.part some low wins),
  )

  -- P6 asks nothing at a place that is no row's
  pub row-past : (place : ℕ) → IsPast (length p.cert.rows) place → P6 slots p place
  row-past place past = record { row = record { row = λ some low. absurd (past (some, low)) }; order = λ some low. absurd (past (some, low)) }

  -- P6 asks of a row that it is tight and that its order allows its choice
  pub row-tight : (place : ℕ) (row : RowValue) (order : List ℕ) (b : Bool) → 0 < place → place ≤ length p.cert.rows → row_of p.cert.rows place ≡ row
      → order_in_row p.row_orders place ≡ order
      → (IsTrue b ↔ IsTightPlaced slots p.cert row order) → IsTrue b ↔ P6 slots p place
  row-tight place row order b some low row_is order_is test = (
    λ t. record {
      row = record { row = λ s l. subst (IsTight (market_of_slots slots) p.cert) (sym row_is) (test.0 t).tight };
      order = λ s l. subst (λ (r : RowValue). IsTrue (allows slots (order_in_row p.row_orders place) r.choice)) (sym row_is)
          (subst (λ (l : List ℕ). IsTrue (allows slots l row.choice)) (sym order_is) (test.0 t).order_allows);
    },
    λ h. test.1 (record {
      tight = subst (IsTight (market_of_slots slots) p.cert) row_is (h.row.row some low);
      order_allows = subst (λ (l : List ℕ). IsTrue (allows slots l row.choice)) order_is
          (subst (λ (r : RowValue). IsTrue (allows slots (order_in_row p.row_orders place) r.choice)) row_is (h.order some low));
    }),
  )

-- what a winner pays above a price is a sum
pub above-price : (b : Bool) (paid sum product : ℤ) → (IsTrue b ↔ (paid -ℤ sum ≡ product)) → IsTrue b ↔ (paid -ℤ product ≡ pos 1 *ℤ sum)
above-price b paid sum product test = (
  λ t. let e = test.0 t in omega (arith, ints, e),
  λ h. test.1 (omega (arith, ints, h)),
)

-- a row whose members, order and sum are tested
pub tight-by : (slots : SlotList) (c : CertValue) (row : RowValue) (order members listed : List ℕ) (b : Bool) → members ≡ row.members → listed ≡ order
    → ((j : ℕ) → IsTrue (is_member members j) → IsTrue (uses c.choice j)) → ((j : ℕ) → IsTrue (is_member members j) → number_of row.choice j ≡ 0)
    → IsTrue (allows slots listed row.choice)
    → (IsTrue b ↔ (sum_over (is_member row.members) (of_bidder c.pay) (length slots.bidders)
    ≡ c.den *ℤ (value_of (market_of_slots slots) row.choice -ℤ sum_over (λ j. not (is_member row.members j)) (won_in (market_of_slots slots) c) (length slots.bidders))))
    → IsTrue b ↔ IsTightPlaced slots c row order
tight-by slots c row order members listed b members_are order_is all none may test =
    let own : IsTrue (allows slots order row.choice) = subst (λ (l : List ℕ). IsTrue (allows slots l row.choice)) order_is may in (
      λ t. record {
        tight = record {
          winners = λ j m. all j (subst (λ (l : List ℕ). IsTrue (is_member l j)) (sym members_are) m);
          allowed = allowed-by_order slots row.choice order own;
          unused = λ j m. none j (subst (λ (l : List ℕ). IsTrue (is_member l j)) (sym members_are) m);
          tight = test.0 t;
        };
        order_allows = own;
      },
      λ h. test.1 h.tight.tight,
    )
