-- The certificate of what pricing finds of slots passes all tests, and is one that pricing writes.
use Rattle.std.specs.Prelude.{◌≡◌, ℕ, ◌<◌, ◌≤◌, IsTrue, List, length, map, ℤ, pos, ◌≤ℤ◌, refl}
use Rattle.std.specs.List.{AllByRecursion}
use Rattle.std.proofs.Common.{◌∙◌, subst, arith}
use Rattle.std.proofs.lemmas.Int.{ints}
use Rattle.auction_model.specs.Market.{uses, value_of}
use Rattle.auction_model.specs.Greatest.{IsGreatest}
use Rattle.auction_model.specs.Prices.{IsCorePoint, paid}
use Rattle.book_price.specs.Made.{cert_made, parts_from, row_from}
use Rattle.book_price.proofs.Multipliers.{kept_firsts, kept_seconds}
use Rattle.book_price.proofs.Payments.{kept_payments}
use Rattle.book_price.proofs.Rows.{kept_rows}
use Rattle.cert_grammar.specs.Certificate.{CertValue, RowValue, part_of, row_of}
use Rattle.cert_grammar.specs.PlaceCert.{PlaceCertValue, order_in_row, order_without}
use Rattle.cert_soundness.specs.MarketTests.{PaysWithinBids}
use Rattle.cert_soundness.specs.Sound.{cert_point}
use Rattle.choices.specs.declared.chooser.Found.{Found}
use Rattle.choices.specs.declared.chooser.Single.{Single}
use Rattle.core_price.specs.Priced.{IsPriced}
use Rattle.core_price.specs.declared.priced.Priced.{Priced}
use Rattle.placement_cert.specs.Parts.{part_order, row_order, row_value}
use Rattle.placement_cert.specs.declared.certificate.PlaceRow.{PlaceRow}
use Rattle.placement_cert.specs.declared.certificate.PlaceWithout.{PlaceWithout}
use Rattle.placement_check.specs.PlacePriced.{IsBestPlacedPart, IsPricedPlaceCert}
use Rattle.placement_check.specs.PlaceTests.{PlacementHolds, P1, P4, P6, P8, P9}
use Rattle.placement_check.proofs.ExactTests.{head-choice, head-table, lowered-table, part-passes}
use Rattle.placement_check.proofs.Sound.{sound}
use Rattle.place_price.specs.Found.{AreFound}
use Rattle.place_price.specs.Ones.{ones}
use Rattle.place_price.specs.PlacedParts.{tables_of}
use Rattle.place_price.specs.PlacedRows.{IsPlacedRow}
use Rattle.place_price.proofs.Alike.{nearest-alike}
use Rattle.place_price.proofs.Allowed.{lawful}
use Rattle.place_price.proofs.Parts.{best-parts, tables-count}
use Rattle.place_price.proofs.RowOrders.{row-placed}
use Rattle.core_laws.specs.Surplus.{AsksWinnersOnly, lowered_sum, surpluses_of}
use Rattle.core_laws.proofs.Excess.{unblocked-free}
use Rattle.core_laws.proofs.Sizes.{worth-nonneg}
use Rattle.core_laws.proofs.Surplus.{surpluses-are}
use Rattle.slot_places.specs.Board.{market_of_slots}
use Rattle.slot_places.specs.Kept.{AreSlots}
use Rattle.slot_places.specs.Orders.{IsPlacement}
use Rattle.slot_places.specs.Slots.{SlotList}

-- the certificate of what was found, with an order of its choice and rows with their orders
abbrev pub cert_found : SlotList → Found (List (List ℤ)) → List Single → List PlaceWithout → Priced (List (List ℤ)) → CertValue
cert_found slots whole singles parts priced = cert_made whole.choice (value_of (market_of_slots slots) whole.choice) whole.table singles
    (tables_of parts) priced.den priced.at priced.rows priced.last.table

abbrev pub places_found : SlotList → Found (List (List ℤ)) → List Single → List PlaceWithout → Priced (List (List ℤ)) → List ℕ → List PlaceRow → PlaceCertValue
places_found slots whole singles parts priced order rows = record {
  cert = cert_found slots whole singles parts priced;
  order = order;
  part_orders =
      map part_order parts;
  row_orders = map row_order rows;
}

module _ (slots : SlotList) (kept : AreSlots slots) (whole : Found (List (List ℤ))) (singles : List Single) (parts : List PlaceWithout)
    (priced : Priced (List (List ℤ))) (found : AreFound slots whole singles parts priced) where
  -- what pricing promises
  pub own : IsPriced (market_of_slots slots) whole.choice (ones slots) singles priced
  own = found.priced_is

  -- the payments that were found are a core point
  pub core : IsCorePoint (market_of_slots slots) whole.choice (cert_point (cert_found slots whole singles parts priced))
  core = own.prices.outcome.core

  -- the choice that was found has a number for each bidder
  pub long : length whole.choice ≡ length slots.bidders
  long = (lawful slots kept).lengths whole.choice found.winning.passed

  -- there are as many tables of parts as winners
  pub count : length (tables_of parts) ≡ length singles
  count = tables-count parts ∙ found.are_parts.count

  -- the value of the choice that was found isn't below 0
  pub least : pos 0 ≤ℤ value_of (market_of_slots slots) whole.choice
  least = worth-nonneg (market_of_slots slots) (lawful slots kept) whole.choice found.winning.passed

  greatest : IsGreatest (market_of_slots slots).allowed (value_of (market_of_slots slots)) whole.choice
  greatest = record { passed = found.winning.passed; greatest = found.winning.greatest }

  -- the certificate of what was found passes P5
  pub passes-5 : (place : ℕ) → PaysWithinBids (market_of_slots slots) (cert_found slots whole singles parts priced) place
  passes-5 = kept_payments (market_of_slots slots) whole.choice (value_of (market_of_slots slots) whole.choice) whole.table singles
      (tables_of parts) priced.den priced.at priced.rows priced.last.table core

  -- no allowed choice counts more by the lowered worths than all that is paid
  free : (f : List ℕ) → IsTrue ((market_of_slots slots).allowed f) → lowered_sum (market_of_slots slots) whole.choice
      (cert_point (cert_found slots whole singles parts priced)) f ≤ℤ paid (market_of_slots slots) (cert_point (cert_found slots whole singles parts priced))
  free f t =
      let p = cert_point (cert_found slots whole singles parts priced) in
      let asks : AsksWinnersOnly (market_of_slots slots) whole.choice p = record { bidders = core.bidders; losers = core.losers } in
      let most = own.last.first.greatest f t in
      let all = unblocked-free (market_of_slots slots) (lawful slots kept) whole.choice p (surpluses_of (market_of_slots slots) whole.choice priced.den p.at)
      (surpluses-are (market_of_slots slots) whole.choice p asks) priced.last.choice own.last.first core.unblocked in
      omega (arith, ints, most, all)

  module _ (order : List ℕ) (placement : IsPlacement slots whole.choice order) (rows : List PlaceRow)
      (rows_are : map row_value rows ≡ map (row_from whole.choice) priced.rows) (placed : AllByRecursion (IsPlacedRow slots) rows) where
    row-at : (r : ℕ) → 0 < r → r ≤ length (map (row_from whole.choice) priced.rows) → IsPlacement slots
        (row_of (map (row_from whole.choice) priced.rows) r).choice (order_in_row (map row_order rows) r)
    row-at r some = subst (λ (values : List RowValue). r ≤ length values → IsPlacement slots (row_of values r).choice (order_in_row (map row_order rows) r))
        rows_are (row-placed slots rows placed r some)

    passes-1 : (place : ℕ) → P1 (places_found slots whole singles parts priced order rows) place
    passes-1 place = record { den = λ is. core.den_positive; value = λ is. least; size = λ is. own.prices.range }

    best : (j : ℕ) → 0 < j → j ≤ length slots.bidders → IsTrue (uses whole.choice j)
        → IsBestPlacedPart slots j (part_of (parts_from singles (tables_of parts)) j)
        (order_without (parts_from singles (tables_of parts)) (map part_order parts) j)
    best j some low wins = best-parts slots whole.choice singles parts found.are_singles found.are_parts j some (let l = long in omega (arith, low, l)) wins

    passes-4 : (place : ℕ) → P4 slots (places_found slots whole singles parts priced order rows) place
    passes-4 place = record {
      part = λ some low wins.
          part-passes slots place (part_of (parts_from singles (tables_of parts)) place)
          (order_without (parts_from singles (tables_of parts)) (map part_order parts) place) some (best place some low wins);
    }

    passes-6 : (place : ℕ) → P6 slots (places_found slots whole singles parts priced order rows) place
    passes-6 place = record {
      row = kept_rows (market_of_slots slots) whole.choice long (value_of (market_of_slots slots) whole.choice) whole.table singles
          (tables_of parts) priced.den priced.at priced.rows priced.last.table own.shown.kept place;
      order = λ some low. (row-at place some low).allowed;
    }

    passes-8 : (place : ℕ) → P8 slots (places_found slots whole singles parts priced order rows) place
    passes-8 place =
        nearest-alike (market_of_slots slots) (cert_found slots whole singles parts priced) place
        (kept_seconds (market_of_slots slots) whole.choice long (ones slots) (value_of (market_of_slots slots) whole.choice) whole.table singles
        (tables_of parts) priced.den priced.at priced.rows priced.last.table refl found.are_singles count own.shown.first own.shown.second place)

    -- the certificate of what was found passes P9
    pub passes-9 : (place : ℕ) → P9 slots (places_found slots whole singles parts priced order rows) place
    passes-9 = lowered-table slots (places_found slots whole singles parts priced order rows) core.bidders passes-5 found.lowered free

    holds : PlacementHolds slots (places_found slots whole singles parts priced order rows)
    holds = record {
      p1 = passes-1;
      p2 = head-choice slots (places_found slots whole singles parts priced order rows) placement.allowed refl;
      p3 = head-table slots (places_found slots whole singles parts priced order rows) greatest refl found.table;
      p4 = passes-4;
      p5 = passes-5;
      p6 = passes-6;
      p7 = kept_firsts (market_of_slots slots) whole.choice long (ones slots) (value_of (market_of_slots slots) whole.choice) whole.table singles
          (tables_of parts) priced.den priced.at priced.rows priced.last.table own.shown.first own.shown.first_sums;
      p8 = passes-8;
      p9 = passes-9;
    }

    -- the certificate of what was found is one that pricing writes
    pub priced_passes : IsPricedPlaceCert slots (places_found slots whole singles parts priced order rows)
    priced_passes = record {
      holds = holds;
      winning = found.winning;
      placement = placement;
      table = found.table;
      parts = best;
      row_placements = row-at;
      outcome = (sound slots (places_found slots whole singles parts priced order rows) holds core.bidders).outcome;
      table_lowered = found.lowered;
    }
