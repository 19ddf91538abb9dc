-- A placement certificate of the band of the worked cases for which all tests pass. Its tables are tested by a computation.
use Rattle.std.specs.Prelude.{Bool, IsTrue, List, [], false, int_le, length, nat_le, not, pos, refl, suc, true, zero, ℕ, ℤ, ◌&&◌, ◌*ℤ◌, ◌+ℤ◌, ◌+◌}
use Rattle.std.specs.Prelude.{◌-ℤ◌, ◌-◌, ◌<ℤ◌, ◌<◌, ◌==◌, ◌^◌, ◌||◌, ◌∷◌, ◌≡◌, ◌≤ℤ◌, ◌≤◌, ◌⊎◌}
use Rattle.std.proofs.Common.{inl, inr, sym, subst, arith}
use Rattle.std.proofs.lemmas.Bool.{false≢true, and_parts, or_cases, cases_eq, eq-eqb, eqb-true, leb-true}
use Rattle.std.proofs.lemmas.Int.{ints}
use Rattle.auction_model.specs.Lowered.{of_bidder}
use Rattle.auction_model.specs.Market.{number_of, uses}
use Rattle.auction_model.specs.Table.{entry_at}
use Rattle.cert_grammar.specs.Certificate.{is_member, part_of, row_of}
use Rattle.cert_soundness.specs.MarketTests.{IsTight, sum_holding, vickrey_in, won_in}
use Rattle.slot_places.specs.Board.{Board, board_of, board_without, market_of_slots}
use Rattle.slot_places.specs.Orders.{allows}
use Rattle.slot_places.specs.SetTable.{holds}
use Rattle.slot_places.specs.Slots.{bids_of, amount_of}
use Rattle.cert_grammar.specs.PlaceCert.{order_in_row, order_without}
use Rattle.placement_check.specs.PlaceTests.{ObeysSets, IsPlacedPart, PlacementHolds}
use Rattle.cert_soundness.specs.MarketPrices.{lowered_in}
use Rattle.placement_check.proofs.WorkedCases.{band, certificate}

abbrev all_of : (ℕ → Bool) → ℕ → Bool
all_of p zero = true
all_of p (suc n) = all_of p n && p (suc n)

all-at : (p : ℕ → Bool) (n j : ℕ) → IsTrue (all_of p n) → 0 < j → j ≤ n → IsTrue (p j)
all-at p zero j t some low = absurd (omega (arith, some, low))
all-at p (suc n) j t some low =
    let both = and_parts (all_of p n) (p (suc n)) t in
    elim (cases_eq j (suc n)) [
      | inl same ↦ subst (λ (i : ℕ). IsTrue (p i)) (sym same) both.1
      | inr other ↦ all-at p n j both.0 some (omega (arith, low, other))
    ]

at_most : (x y : ℤ) → IsTrue (int_le x y) → x ≤ℤ y
at_most x y t = omega (arith, ints, t)

when : (a b : Bool) → IsTrue (not a || b) → IsTrue a → IsTrue b
when true b t e = t
when false b t e = absurd (false≢true e)

unless : (a b : Bool) → IsTrue (a || b) → a ≡ false → IsTrue b
unless true b t e = absurd (false≢true (sym e))
unless false b t e = t

module _ (b : Board) (worth : ℕ → ℕ → ℤ) (table : List (List ℤ)) where
  abbrev bid_kept : ℕ → ℕ → ℕ → Bool
  bid_kept bits j i = not (b.may (holds bits) j i) || int_le (worth j i +ℤ entry_at table 0 (bits + 2 ^ (j - 1))) (entry_at table 0 bits)

  abbrev next_kept : ℕ → ℕ → Bool
  next_kept bits j = holds bits j || (int_le (entry_at table 0 (bits + 2 ^ (j - 1))) (entry_at table 0 bits) && all_of (bid_kept bits j) (b.bids j))

  abbrev set_kept : ℕ → Bool
  set_kept bits = (not (bits == 2 ^ b.bidders - 1) || int_le (pos 0) (entry_at table 0 bits)) && all_of (next_kept bits) b.bidders

  kept-next : (bits j : ℕ) → IsTrue (set_kept bits) → 0 < j → j ≤ b.bidders → holds bits j ≡ false
      → IsTrue (int_le (entry_at table 0 (bits + 2 ^ (j - 1))) (entry_at table 0 bits)) × IsTrue (all_of (bid_kept bits j) (b.bids j))
  kept-next bits j t some low new =
      let own = int_le (entry_at table 0 (bits + 2 ^ (j - 1))) (entry_at table 0 bits) in
      let bids = all_of (bid_kept bits j) (b.bids j) in
      let both = and_parts (not (bits == 2 ^ b.bidders - 1) || int_le (pos 0) (entry_at table 0 bits)) (all_of (next_kept bits) b.bidders) t in
      and_parts own bids (unless (holds bits j) (own && bids) (all-at (next_kept bits) b.bidders j both.1 some low) new)

  kept : IsTrue (all_of (λ s. set_kept (s - 1)) (2 ^ b.bidders)) → ObeysSets b worth table
  kept all bits below =
      let back : suc bits - 1 ≡ bits = omega arith in
      let own : IsTrue (set_kept bits) = subst (λ (n : ℕ). IsTrue (set_kept n)) back
      (all-at (λ s. set_kept (s - 1)) (2 ^ b.bidders) (suc bits) all (omega arith) (omega (arith, below))) in
      let both = and_parts (not (bits == 2 ^ b.bidders - 1) || int_le (pos 0) (entry_at table 0 bits)) (all_of (next_kept bits) b.bidders) own in
      record {
        last = λ whole. at_most (pos 0) (entry_at table 0 bits) (when (bits == 2 ^ b.bidders - 1) (int_le (pos 0) (entry_at table 0 bits)) both.0
            (eq-eqb bits (2 ^ b.bidders - 1) whole));
        none = λ j some low new. at_most (entry_at table 0 (bits + 2 ^ (j - 1))) (entry_at table 0 bits) (kept-next bits j own some low new).0;
        bid = λ j i some low new positive known may.
            at_most (worth j i +ℤ entry_at table 0 (bits + 2 ^ (j - 1))) (entry_at table 0 bits)
            (when (b.may (holds bits) j i) (int_le (worth j i +ℤ entry_at table 0 (bits + 2 ^ (j - 1))) (entry_at table 0 bits))
            (all-at (bid_kept bits j) (b.bids j) i (kept-next bits j own some low new).1 positive known) may);
      }

three : (P : ℕ → Type 0) → P 1 → P 2 → P 3 → (j : ℕ) → 0 < j → j ≤ 3 → P j
three P a b c zero some low = absurd (omega (arith, some))
three P a b c (suc zero) some low = a
three P a b c (suc (suc zero)) some low = b
three P a b c (suc (suc (suc zero))) some low = c
three P a b c (suc (suc (suc (suc j)))) some low = absurd (omega (arith, low))

one : (P : ℕ → Type 0) → P 1 → (j : ℕ) → 0 < j → j ≤ 1 → P j
one P a zero some low = absurd (omega (arith, some))
one P a (suc zero) some low = a
one P a (suc (suc j)) some low = absurd (omega (arith, low))

abbrev chosen : List ℕ
chosen = 1 ∷ 1 ∷ 0 ∷ []

-- who is in the row of bidders 1 and 2
in_row : (P : ℕ → Type 0) → P 1 → P 2 → (j : ℕ) → IsTrue (is_member (1 ∷ 2 ∷ []) j) → P j
in_row P a b j t =
    elim (or_cases (1 == j) ((2 == j) || false) t) [
      | inl first ↦ subst P (eqb-true 1 j first) a
      | inr rest ↦ elim (or_cases (2 == j) false rest) [
        | inl second ↦ subst P (eqb-true 2 j second) b
        | inr none ↦ absurd (false≢true none)
      ]
    ]

tight : IsTight (market_of_slots band) certificate.cert (row_of certificate.cert.rows 1)
tight = record {
  winners = in_row (λ j. IsTrue (uses chosen j)) refl refl;
  allowed = refl;
  unused = in_row (λ j. number_of (0 ∷ 0 ∷ 1 ∷ []) j ≡ 0) refl refl;
  tight = omega (arith, ints);
}

all_tests : PlacementHolds band certificate
all_tests = record {
  p1 = λ place. record { den = λ e. omega (arith, ints); value = λ e. omega (arith, ints); size = λ e. omega (arith, ints) };
  p2 = λ place. record {
    known = λ some low. leb-true (number_of chosen place) (length (bids_of band place))
        (all-at (λ j. nat_le (number_of chosen j) (length (bids_of band j))) 3 place refl some low);
    allowed = λ e. refl;
    value = λ e. omega (arith, ints);
  };
  p3 = λ place. record { rules = λ below. kept (board_of band) (amount_of band) certificate.cert.table refl place below; top = λ e. omega (arith, ints) };
  p4 = λ place. record {
    part = three (λ j. IsTrue (uses chosen j) → IsPlacedPart band j (part_of certificate.cert.withouts j)
        (order_without certificate.cert.withouts certificate.part_orders j))
        (λ wins. record { allowed = refl; unused = refl; rules = kept (board_without band 1) (amount_of band) _ refl; top = omega (arith, ints) })
        (λ wins. record { allowed = refl; unused = refl; rules = kept (board_without band 2) (amount_of band) _ refl; top = omega (arith, ints) })
        (λ wins. absurd (false≢true wins)) place;
  };
  p5 = λ place. record {
    winner = three (λ j. IsTrue (uses chosen j) → (pos 0 ≤ℤ of_bidder certificate.cert.pay j)
        × (of_bidder certificate.cert.pay j ≤ℤ (certificate.cert.den *ℤ won_in (market_of_slots band) certificate.cert j)))
        (λ wins. (omega (arith, ints), omega (arith, ints))) (λ wins. (omega (arith, ints), omega (arith, ints))) (λ wins. absurd (false≢true wins)) place;
    loser = three (λ j. uses chosen j ≡ false → of_bidder certificate.cert.pay j ≡ pos 0) (λ loses. absurd (false≢true (sym loses)))
        (λ loses. absurd (false≢true (sym loses))) (λ loses. refl) place;
  };
  p6 = λ place. record {
    row = record { row = one (λ r. IsTight (market_of_slots band) certificate.cert (row_of certificate.cert.rows r)) tight place };
    order = one (λ r. IsTrue (allows band (order_in_row certificate.row_orders r) (row_of certificate.cert.rows r).choice)) refl place;
  };
  p7 = λ place. record {
    sign = one (λ r. pos 0 ≤ℤ (row_of certificate.cert.rows r).first) (omega (arith, ints)) place;
    columns = λ j some low e. three (λ h. IsTrue (uses chosen h) → sum_holding certificate.cert.rows h (λ row. row.first) 1 ≡ pos 1) (λ wins. refl)
        (λ wins. refl) (λ wins. absurd (false≢true wins)) j some low;
  };
  p8 = λ place. record {
    sign = one (λ r. (pos 0 <ℤ (row_of certificate.cert.rows r).first) ⊎ (pos 0 ≤ℤ (row_of certificate.cert.rows r).second)) (inr (omega (arith, ints))) place;
    columns = λ j some low e. three (λ h. IsTrue (uses chosen h) → of_bidder certificate.cert.pay h -ℤ
        (pos 1 *ℤ vickrey_in (market_of_slots band) certificate.cert h) ≡ pos 1 *ℤ sum_holding certificate.cert.rows h (λ row. row.second) 1)
        (λ wins. refl) (λ wins. refl) (λ wins. absurd (false≢true wins)) j some low;
  };
  p9 = λ place. record {
    rules = λ below. kept (board_of band) (lowered_in (market_of_slots band) certificate.cert) certificate.cert.lowered refl place below;
    top =
        λ e. omega (arith, ints);
  };
}
