-- What pricing writes is one, since first orders, exact tables and greatest values are.
use Rattle.std.specs.Prelude.{◌≡◌, ◌⊎◌, ℕ, ◌+◌, ◌^◌, ◌<◌, Bool, ◌&&◌, not, nat_lt, ◌==◌, IsTrue, List, [], ◌∷◌, length, slice_index_or, ℤ, pos, refl}
use Rattle.std.proofs.Common.{inl, inr, sym, ◌∙◌, ap, subst, arith}
use Rattle.std.proofs.lemmas.Bool.{and_parts, and_from, or_left, or_right, eq-eqb, lt-ltb, cases_order}
use Rattle.std.proofs.lemmas.Int.{ints}
use Rattle.std.proofs.lemmas.List.{ext_get_or}
use Rattle.auction_model.specs.Greatest.{IsGreatestValue}
use Rattle.auction_model.specs.Lawful.{IsMarket}
use Rattle.auction_model.specs.Market.{uses, value_of}
use Rattle.auction_model.specs.Prices.{IsCoreOutcome, alike, allowed_without}
use Rattle.auction_model.proofs.OrderLaws.{one-first}
use Rattle.auction_model.proofs.PriceLaws.{outcome-one, winning-one}
use Rattle.cert_grammar.specs.Certificate.{WithoutValue, part_of}
use Rattle.cert_soundness.specs.Sound.{cert_point}
use Rattle.slot_places.specs.Board.{Board, board_of, board_without, market_of_slots}
use Rattle.slot_places.specs.Orders.{is_order_before, IsPlacement}
use Rattle.slot_places.specs.SetTable.{holds, fits_behind, sum_outside, IsSetTable}
use Rattle.slot_places.specs.Slots.{SlotList, amount_of}
use Rattle.slot_places.proofs.FirstOrders.{allowed-says}
use Rattle.slot_places.proofs.MarketLaws.{market-of_slots}
use Rattle.cert_grammar.specs.PlaceCert.{PlaceCertValue, order_without}
use Rattle.placement_check.specs.PlacePriced.{IsBestPlacedPart, IsPricedPlaceCert, IsSamePlacedPart, IsSamePricing}

-- of two orders of one length one comes first where they differ
order-cases : (p q : List ℕ) → length p ≡ length q → (p ≡ q) ⊎ (IsTrue (is_order_before p q) ⊎ IsTrue (is_order_before q p))
order-cases [] [] e = inl refl
order-cases [] (j ∷ q) e = absurd (omega (arith, e))
order-cases (i ∷ p) [] e = absurd (omega (arith, e))
order-cases (i ∷ p) (j ∷ q) e =
    elim (cases_order i j) [
      | inl same ↦ elim (order-cases p q (omega (arith, e))) [
        | inl rest ↦ inl (cc (same, rest))
        | inr (inl before) ↦ inr (inl (or_right (nat_lt i j) ((i == j) && is_order_before p q)
            (and_from (i == j) (is_order_before p q) (eq-eqb i j same) before)))
        | inr (inr after) ↦ inr (inr (or_right (nat_lt j i) ((j == i) && is_order_before q p)
            (and_from (j == i) (is_order_before q p) (eq-eqb j i (sym same)) after)))
      ]
      | inr (inl less) ↦ inr (inl (or_left (nat_lt i j) ((i == j) && is_order_before p q) (lt-ltb i j less)))
      | inr (inr more) ↦ inr (inr (or_left (nat_lt j i) ((j == i) && is_order_before q p) (lt-ltb j i more)))
    ]

-- a choice has one placement
one-placement : (slots : SlotList) (c order other : List ℕ) → IsPlacement slots c order → IsPlacement slots c other → order ≡ other
one-placement slots c order other a b =
    elim (order-cases order other ((allowed-says slots c order a.allowed).count ∙ sym (allowed-says slots c other b.allowed).count)) [
      | inl same ↦ same
      | inr (inl before) ↦ absurd (b.first order a.allowed before)
      | inr (inr after) ↦ absurd (a.first other b.allowed after)
    ]

one-value : (passes : List ℕ → Bool) (value : List ℕ → ℤ) (x y : ℤ) → IsGreatestValue passes value x → IsGreatestValue passes value y → x ≡ y
one-value passes value x y g h =
    let high = h.bound g.reached.0 g.reached.1 in
    let low = g.bound h.reached.0 h.reached.1 in
    omega (arith, ints, high, low, g.reached.2, h.reached.2)

one-line : (table : List (List ℤ)) → length table ≡ 1 → table ≡ slice_index_or table 0 [] ∷ []
one-line [] e = absurd (omega (arith, e))
one-line (line ∷ []) e = refl
one-line (line ∷ other ∷ table) e = absurd (omega (arith, e))

-- what each bidder counts has one exact table
one-table : (b : Board) (counts : ℕ → ℕ → ℤ) (table other : List (List ℤ)) → IsSetTable b counts table → IsSetTable b counts other → table ≡ other
one-table b counts table other x y =
    let lines : slice_index_or table 0 [] ≡ slice_index_or other 0 [] =
    ext_get_or (pos 0) (slice_index_or table 0 []) (slice_index_or other 0 []) (x.sets ∙ sym y.sets)
    (λ bits inside.
    let below : bits < 2 ^ b.bidders = omega (arith, inside, x.sets) in
    one-value (fits_behind b (holds bits)) (sum_outside (holds bits) counts) (slice_index_or (slice_index_or table 0 []) bits (pos 0))
    (slice_index_or (slice_index_or other 0 []) bits (pos 0)) (x.exact bits below) (y.exact bits below)) in
    one-line table x.lines ∙ ap (λ (line : List ℤ). line ∷ []) lines ∙ sym (one-line other y.lines)

-- a winner has one best part
one-part : (slots : SlotList) (j : ℕ) (a b : WithoutValue) (order other : List ℕ) → IsMarket (market_of_slots slots) → IsBestPlacedPart slots j a order
    → IsBestPlacedPart slots j b other → IsSamePlacedPart a b order other
one-part slots j a b order other law x y =
    let m = market_of_slots slots in
    let long : (c : List ℕ) → IsTrue (allowed_without m j c) → length c ≡ m.bidders = λ c t. law.lengths c (and_parts (m.allowed c) (not (uses c j)) t).0 in
    let same = one-first (allowed_without m j) (value_of m) a.choice b.choice (long a.choice x.choice.passed ∙ sym (long b.choice y.choice.passed)) x.choice
    y.choice in
    record {
      choice = same;
      placement = one-placement slots b.choice order other (subst (λ (c : List ℕ). IsPlacement slots c order) same x.placement) y.placement;
      table = one-table (board_without slots j) (amount_of slots) a.table b.table x.table y.table;
    }

-- two certificates that pricing writes of slots have the same choice, value, placement, tables, parts and payments
pub one-pricing : (slots : SlotList) (p q : PlaceCertValue) → length slots.bidders < 2 ^ 16 → IsPricedPlaceCert slots p → IsPricedPlaceCert slots q
    → IsSamePricing slots p q
one-pricing slots p q few a b =
    let m = market_of_slots slots in
    let law = market-of_slots slots few in
    let n = length slots.bidders in
    let same : p.cert.choice ≡ q.cert.choice = winning-one m law p.cert.choice q.cert.choice a.winning b.winning in
    record {
      choice = same;
      value = sym ((a.holds.p2 (n + 2)).value refl) ∙ ap (value_of m) same ∙ (b.holds.p2 (n + 2)).value refl;
      placement = one-placement slots q.cert.choice p.order q.order (subst (λ (c : List ℕ). IsPlacement slots c p.order) same a.placement) b.placement;
      table = one-table (board_of slots) (amount_of slots) p.cert.table q.cert.table a.table b.table;
      parts = λ j some low wins.
          one-part slots j (part_of p.cert.withouts j) (part_of q.cert.withouts j) (order_without p.cert.withouts p.part_orders j)
          (order_without q.cert.withouts q.part_orders j) law
          (a.parts j some low wins) (b.parts j some low (subst (λ (c : List ℕ). IsTrue (uses c j)) same wins));
      point = outcome-one m law alike q.cert.choice (cert_point p.cert) (cert_point q.cert)
          (subst (λ (c : List ℕ). IsCoreOutcome m alike c (cert_point p.cert)) same a.outcome) b.outcome;
    }
