-- The certificate of what pricing finds of slots has the shape that a placement certificate keeps.
use Rattle.std.specs.Prelude.{◌≡◌, ℕ, zero, suc, ◌^◌, ◌<◌, ◌≤◌, IsTrue, not, List, [], ◌∷◌, length, map, ℤ, pos, ◌+ℤ◌, ◌*ℤ◌, ◌≤ℤ◌, ◌<ℤ◌, refl}
use Rattle.std.specs.List.{AllByRecursion}
use Rattle.std.proofs.Common.{inl, inr, sym, ◌∙◌, ap, subst, arith}
use Rattle.std.proofs.lemmas.Bool.{and_parts, cases_Bool}
use Rattle.std.proofs.lemmas.Int.{ints}
use Rattle.std.proofs.Math.IntN.{*ℤ-zero}
use Rattle.auction_model.specs.Lawful.{IsMarket}
use Rattle.auction_model.specs.Lowered.{of_bidder}
use Rattle.auction_model.specs.Market.{Market, uses, value_of, worth_in}
use Rattle.auction_model.specs.Prices.{IsCorePoint, Point, paid}
use Rattle.auction_model.specs.Table.{entry_at}
use Rattle.book_price.specs.Made.{parts_from, row_from}
use Rattle.book_price.proofs.Ones.{winners-few}
use Rattle.book_price.proofs.Places.{front_of, rest}
use Rattle.book_price.proofs.Shapes.{choice_shape, numbers_shape, pay_shape, rows_few, rows_shape}
use Rattle.cert_grammar.specs.Certificate.{RowValue, WithoutValue}
use Rattle.cert_soundness.specs.Sound.{cert_point}
use Rattle.cert_grammar.specs.CertText.{AreRows, InRange, IsChoice}
use Rattle.choices.specs.Singles.{winners_after}
use Rattle.choices.specs.declared.chooser.Found.{Found}
use Rattle.choices.specs.declared.chooser.Single.{Single}
use Rattle.core_price.specs.declared.priced.Priced.{Priced}
use Rattle.placement_cert.specs.Parts.{part_order, part_value, place_cert_from, row_order, row_value}
use Rattle.placement_cert.specs.PlaceText.{AreOrderedRows, AreOrderedWithouts, HasSets, IsOrderedWithout, IsPlaceCertificate}
use Rattle.placement_cert.specs.declared.certificate.PlaceRow.{PlaceRow}
use Rattle.placement_cert.specs.declared.certificate.PlaceWithout.{PlaceWithout}
use Rattle.cert_soundness.specs.MarketPrices.{lowered_in}
use Rattle.placement_check.proofs.Exact.{lowered-obeys, plain-obeys}
use Rattle.placement_check.proofs.FirstEntry.{whole-entry}
use Rattle.place_price.specs.Found.{AreFound}
use Rattle.place_price.specs.PlacedParts.{IsBest, tables_of}
use Rattle.place_price.specs.PlacedRows.{IsPlacedRow}
use Rattle.place_price.proofs.Allowed.{lawful, order-shape}
use Rattle.place_price.proofs.Passes.{cert_found, core, least, long, passes-5, passes-9, places_found}
use Rattle.place_price.proofs.RowOrders.{ordered-rows}
use Rattle.place_price.proofs.Tables.{below-range, part-sets, sets-shape}
use Rattle.projection_laws.proofs.Sums.{total-le}
use Rattle.core_laws.proofs.Excess.{everyone-is}
use Rattle.core_laws.proofs.Sizes.{unused-worth}
use Rattle.core_laws.proofs.Sums.{choice-is}
use Rattle.core_laws.specs.Winners.{for_bidders}
use Rattle.slot_places.specs.Board.{board_of, market_of_slots}
use Rattle.slot_places.specs.Kept.{AreSlots}
use Rattle.slot_places.specs.Orders.{IsPlacement}
use Rattle.slot_places.specs.Slots.{SlotList, amount_of}
use Rattle.wide_num.specs.Sums.{total}
use Rattle.wide_num.proofs.Ints.{*ℤ-one, mul-add}
use Rattle.wide_num.proofs.Sums.{total-scale}

-- at a core point no more is paid than the choice is worth
paid-most : (m : Market) → IsMarket m → (z : List ℕ) (p : Point) → IsTrue (m.allowed z)
    → ((j : ℕ) → 0 < j → j ≤ m.bidders → of_bidder p.at j ≤ℤ (p.den *ℤ worth_in m z j)) → paid m p ≤ℤ (p.den *ℤ value_of m z)
paid-most m lawful z p t each =
    let all = everyone-is (of_bidder p.at) m.bidders in
    let le = total-le m.bidders (λ k. of_bidder p.at (suc k)) (λ k. p.den *ℤ worth_in m z (suc k)) (λ k lt. each (suc k) (omega arith) (omega (arith, lt))) in
    let times = total-scale m.bidders p.den (λ k. worth_in m z (suc k)) in
    let value : value_of m z ≡ total m.bidders (λ k. worth_in m z (suc k)) = choice-is m.worth z ∙ ap (λ n. total n (λ k. worth_in m z (suc k)))
    (lawful.lengths z t) in
    let worth = ap (λ (x : ℤ). p.den *ℤ x) value in
    omega (arith, ints, all, le, times, worth)

core-each : (m : Market) → IsMarket m → (z : List ℕ) (p : Point) → IsCorePoint m z p → (j : ℕ) → 0 < j → j ≤ m.bidders
    → of_bidder p.at j ≤ℤ (p.den *ℤ worth_in m z j)
core-each m lawful z p core zero some inside = absurd (omega (arith, some))
core-each m lawful z p core (suc k) some inside =
    elim (cases_Bool (uses z (suc k))) [
      | inl wins ↦ (core.winners (suc k) some inside wins).1
      | inr loses ↦ (
          let none = core.losers (suc k) some inside loses in
          let worth : p.den *ℤ worth_in m z (suc k) ≡ pos 0 = ap (λ (x : ℤ). p.den *ℤ x) (unused-worth m lawful z k loses) ∙ *ℤ-zero p.den in
          omega (arith, ints, none, worth))
    ]

-- what is paid is in range if the denominator times one more than the value is
paid-below : (den value paid : ℤ) → pos 1 ≤ℤ den → paid ≤ℤ (den *ℤ value) → (den *ℤ (value +ℤ pos 1)) <ℤ pos (2 ^ 120) → paid <ℤ pos (2 ^ 120)
paid-below den value paid some most small =
    let apart = mul-add den value (pos 1) in
    let one = *ℤ-one den in
    omega (arith, ints, apart, one, some, most, small)

module _ (slots : SlotList) (kept : AreSlots slots) where
  choices : (c : List ℕ) → IsTrue ((market_of_slots slots).allowed c) → IsChoice (length slots.bidders) c
  choices = choice_shape (market_of_slots slots) (lawful slots kept) (λ j some low. (let f = (kept.bidders j some low).few in omega (arith, f)))

  -- the parts of the winners, s bidders being passed
  parts-shape : (s : ℕ) (z : List ℕ) (parts : List PlaceWithout) → map (λ w. w.winner) parts ≡ winners_after s z → AllByRecursion (IsBest slots) parts
      → AreOrderedWithouts (length slots.bidders) (suc s) z (map part_value parts) (map part_order parts)
  parts-shape s [] [] e all = tt
  parts-shape s [] (w ∷ parts) e all = absurd (let l = ap length e in omega (arith, l))
  parts-shape s (zero ∷ z) parts e all = parts-shape (suc s) z parts e all
  parts-shape s (suc n ∷ z) [] e all = absurd (let l = ap length e in omega (arith, l))
  parts-shape s (suc n ∷ z) (w ∷ parts) e all = (one, parts-shape (suc s) z parts (ap rest e) all.1)
    where
      front : w.winner ≡ suc s
      front = front_of w.winner (suc s) (map (λ (p : PlaceWithout). p.winner) parts) (winners_after (suc s) z) e

      one : IsOrderedWithout (length slots.bidders) (suc s) (part_value w) w.order
      one = record {
        winner = front;
        order = order-shape slots w.choice w.order kept all.0.placement;
        choice = choices w.choice (and_parts ((market_of_slots slots).allowed w.choice) (not (uses w.choice w.winner)) all.0.choice.passed).0;
        table = part-sets slots kept w.winner (part_value w) w.order (omega (arith, front)) all.0;
      }

module _ (slots : SlotList) (kept : AreSlots slots) (whole : Found (List (List ℤ))) (singles : List Single) (parts : List PlaceWithout)
    (priced : Priced (List (List ℤ))) (found : AreFound slots whole singles parts priced)
    (order : List ℕ) (placement : IsPlacement slots whole.choice order) (rows : List PlaceRow)
    (rows_are : map row_value rows ≡ map (row_from whole.choice) priced.rows) (placed : AllByRecursion (IsPlacedRow slots) rows) where
  numbers : InRange priced.den × InRange (value_of (market_of_slots slots) whole.choice)
  numbers = numbers_shape priced.den (value_of (market_of_slots slots) whole.choice) (core slots kept whole singles parts priced found).den_positive
      (least slots kept whole singles parts priced found) found.priced_is.prices.range

  table-shape : HasSets (length slots.bidders) whole.table
  table-shape =
      let first = (whole-entry slots (amount_of slots) whole.table found.table).reached in
      let most = found.winning.greatest first.0 first.1 in
      sets-shape (board_of slots) (amount_of slots) (amount_of slots) whole.table found.table (plain-obeys slots whole.table found.table)
      (below-range (entry_at whole.table 0 0) (value_of (market_of_slots slots) whole.choice) (omega (arith, ints, most, first.2)) numbers.1)

  lowered-shape : HasSets (length slots.bidders) priced.last.table
  lowered-shape =
      let c = cert_found slots whole singles parts priced in
      let point = core slots kept whole singles parts priced found in
      let top = (passes-9 slots kept whole singles parts priced found order placement rows rows_are placed (2 ^ length slots.bidders)).top refl in
      let most = paid-most (market_of_slots slots) (lawful slots kept) whole.choice (cert_point c) found.winning.passed
      (core-each (market_of_slots slots) (lawful slots kept) whole.choice (cert_point c) point) in
      let low = paid-below priced.den (value_of (market_of_slots slots) whole.choice) (paid (market_of_slots slots) (cert_point c)) point.den_positive most
      found.priced_is.prices.range in
      sets-shape (board_of slots) _ (lowered_in (market_of_slots slots) c) priced.last.table found.lowered
      (lowered-obeys slots c priced.last.table point.bidders (passes-5 slots kept whole singles parts priced found) found.lowered)
      (omega (arith, ints, top, low))

  withouts-shape : AreOrderedWithouts (length slots.bidders) 1 whole.choice (parts_from singles (tables_of parts)) (map part_order parts)
  withouts-shape =
      subst (λ (ws : List WithoutValue). AreOrderedWithouts (length slots.bidders) 1 whole.choice ws (map part_order parts)) found.are_parts.made
      (parts-shape slots kept 0 whole.choice parts (found.are_parts.winners ∙ found.are_singles.winners) found.are_parts.best)

  orders-shape : AreOrderedRows (length slots.bidders) (map (row_from whole.choice) priced.rows) (map row_order rows)
  orders-shape =
      let shown = found.priced_is.shown in
      let shape : AreRows (length slots.bidders) (map (row_from whole.choice) priced.rows) =
      rows_shape (market_of_slots slots) whole.choice (long slots kept whole singles parts priced found) (choices slots kept) priced.den priced.at priced.rows
      shown.kept shown.first shown.first_sums numbers.0 shown.small_seconds in
      subst (λ (values : List RowValue). AreOrderedRows (length slots.bidders) values (map row_order rows)) rows_are
      (ordered-rows slots kept rows placed (subst (AreRows (length slots.bidders)) (sym rows_are) shape))

  -- the certificate of what pricing finds keeps what a placement certificate keeps
  pub priced_shape : IsPlaceCertificate (length slots.bidders) (places_found slots whole singles parts priced order rows)
  priced_shape = record {
    den = numbers.0;
    value = numbers.1;
    order = order-shape slots whole.choice order kept placement;
    choice = choices slots kept whole.choice found.winning.passed;
    table = table-shape;
    withouts = withouts-shape;
    pay = pay_shape (market_of_slots slots) whole.choice (long slots kept whole singles parts priced found) priced.at found.priced_is.prices.small;
    few = rows_few whole.choice priced.rows found.priced_is.shown.few
        (let w = winners-few whole.choice in let l = long slots kept whole singles parts priced found in let f = kept.few in omega (arith, w, l, f));
    rows = orders-shape;
    lowered = lowered-shape;
  }

  -- the fields that the program fills
  module _ (den value : ℤ) (choice : List ℕ) (table : List (List ℤ)) (pay : List ℤ) (lowered_lines : List (List ℤ))
      (den_is : den ≡ priced.den) (value_is : value ≡ value_of (market_of_slots slots) whole.choice) (choice_is : choice ≡ whole.choice)
      (table_is : table ≡ whole.table)
      (pay_is : pay ≡ for_bidders whole.choice priced.at) (lowered_is : lowered_lines ≡ priced.last.table) where
    -- the fields that the program fills make the certificate of what was found
    pub made_is : place_cert_from den value choice order table parts pay rows lowered_lines ≡ places_found slots whole singles parts priced order rows
    made_is = λ t. record {
      cert = record {
        den = den_is t;
        value = value_is t;
        choice = choice_is t;
        table = table_is t;
        withouts = found.are_parts.made t;
        pay = pay_is t;
        rows =
            rows_are t;
        lowered = lowered_is t;
      };
      order = order;
      part_orders = map part_order parts;
      row_orders = map row_order rows;
    }

    -- the certificate of these fields keeps what one keeps for as many bidders as its choice has numbers
    pub made_shape : IsPlaceCertificate (length choice) (place_cert_from den value choice order table parts pay rows lowered_lines)
    made_shape =
        subst (IsPlaceCertificate (length choice)) (sym made_is)
        (subst (λ (n : ℕ). IsPlaceCertificate n (places_found slots whole singles parts priced order rows))
        (sym (ap length choice_is ∙ long slots kept whole singles parts priced found)) priced_shape)
