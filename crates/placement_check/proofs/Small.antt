-- No number leaves the range: products with the denominator, and the worths that a table is tested for.
use Rattle.std.specs.Prelude.{◌≡◌, ℕ, ◌+◌, ◌-◌, ◌*◌, ◌^◌, ◌≤◌, ◌<◌, List, length, replicate, ℤ, pos, negsuc, ◌-ℤ◌, ◌*ℤ◌, ◌≤ℤ◌, unsigned_abs, refl}
use Rattle.std.proofs.Common.{FitsSigned, to_z, of_z, inl, inr, sym, ◌∙◌, ap, subst, arith}
use Rattle.std.proofs.lemmas.Bool.{cases_Bool, cond-true, cond-false}
use Rattle.std.proofs.lemmas.Int.{ints, to_z-of_z}
use Rattle.std.specs.Int.{w128}
use Rattle.std.proofs.lemmas.List.{length-replicate}
use Rattle.auction_model.specs.Lowered.{of_bidder}
use Rattle.auction_model.specs.Market.{uses, worth_in}
use Rattle.auction_model.proofs.ListLaws.{zeros-at}
use Rattle.slot_places.specs.Board.{board_of, market_of_slots}
use Rattle.slot_places.specs.Kept.{AreSlots}
use Rattle.slot_places.specs.Slots.{SlotList, bid_of, amount_of}
use Rattle.slot_places.proofs.WithoutLaws.{one-bid}
use Rattle.cert_grammar.specs.PlaceCert.{PlaceCertValue}
use Rattle.placement_check.specs.PlaceTests.{P1, P2, P3, P5}
use Rattle.cert_soundness.specs.MarketPrices.{lowered_in}
use Rattle.placement_check.proofs.SetSizes.{worth-most}
use Rattle.cert_check.proofs.LoweredLaws.{scaled-small}
use Rattle.cert_check.proofs.Worths.{once}
use Rattle.placement_check.specs.OfferRules.{worth_with, HasSmallWorths}
use Rattle.placement_check.specs.Shown.{CanLower, HasSmallProducts, gain_in}
use Rattle.placement_check.proofs.AmountLaws.{amount-most}
use Rattle.placement_check.proofs.SetTests.{bids-same}

once-small : (a : ℕ) → a ≤ 2 ^ 42 → unsigned_abs (pos 1 *ℤ pos a) < 2 ^ 120
once-small a most = omega (arith, ints, most)

-- with a denominator of 1 and no gains, bids are worth their amounts
pub plain-worth : (slots : SlotList) (n j i : ℕ) → worth_with slots (pos 1) (replicate n (pos 0)) j i ≡ amount_of slots j i
plain-worth slots n j i = once (amount_of slots j i) (of_bidder (replicate n (pos 0)) j) (zeros-at n (j - 1))

-- with a denominator of 1 and no gains, no worth of a bid leaves the range
pub plain-small : (slots : SlotList) (skip n : ℕ) → AreSlots slots → length slots.bidders ≤ n → HasSmallWorths slots skip (pos 1) (replicate n (pos 0))
plain-small slots skip n kept many = record {
  count = let e = length-replicate {A = ℤ} n (pos 0) in omega (arith, e, many);
  bids = λ bits j i below some low new positive known may. once-small (bid_of slots j i).amount (amount-most slots kept j i some low);
  gained = λ j some low. let e : of_bidder (replicate n (pos 0)) j ≡ pos 0 = zeros-at n (j - 1) in omega (arith, ints, e);
}

nonneg-product : (den a : ℤ) → pos 1 ≤ℤ den → pos 0 ≤ℤ a → pos 0 ≤ℤ (den *ℤ a)
nonneg-product (pos d) (pos a) some least = omega (arith, ints)
nonneg-product (pos d) (negsuc a) some least = absurd (omega (arith, ints, least))
nonneg-product (negsuc d) a some least = absurd (omega (arith, ints, some))

module _ (slots : SlotList) (p : PlaceCertValue) (numbers : length p.cert.choice ≡ length slots.bidders) (p1 : (place : ℕ) → P1 p place)
    (p2 : (place : ℕ) → P2 slots p place) where
  won-most : (j : ℕ) → 0 < j → j ≤ length slots.bidders → worth_in (market_of_slots slots) p.cert.choice j ≤ℤ p.cert.value
  won-most j some low =
      let one = one-bid slots 0 p.cert.choice (j - 1) j (omega (arith, some)) (omega (arith, numbers, some, low)) in
      let whole = (p2 (length slots.bidders + 2)).value refl in
      omega (arith, ints, one, whole)

  -- if P1 and P2 hold, the denominator times what a bidder wins stays in the range
  pub small-products : HasSmallProducts slots p
  small-products j some low =
      let won = worth_in (market_of_slots slots) p.cert.choice j in
      let least : pos 0 ≤ℤ worth_in (market_of_slots slots) p.cert.choice j = omega (arith, ints) in (
        nonneg-product p.cert.den won ((p1 1).den refl) least,
        scaled-small p.cert.den won p.cert.value ((p1 1).den refl) least (won-most j some low) ((p1 3).size refl),
      )

  -- if P1, P2, P3 and P5 hold, no lowered worth leaves the range
  pub can-lower : ((place : ℕ) → P3 slots p place) → ((place : ℕ) → P5 slots p place) → CanLower slots p
  can-lower p3 p5 = record {
    products = small-products;
    pays = p5;
    bids = λ bits j i below some low new positive known may.
        let one = worth-most (board_of slots) (amount_of slots) p.cert.table (λ set lt. (p3 set).rules lt) bits j i below some low new positive known may in
        let top = (p3 (2 ^ length slots.bidders)).top refl in
        scaled-small p.cert.den (amount_of slots j i) p.cert.value ((p1 1).den refl) (omega (arith, ints)) (omega (arith, ints, one, top)) ((p1 3).size refl);
  }

kept-small : (x y : ℤ) → pos 0 ≤ℤ y → y ≤ℤ x → unsigned_abs x < 2 ^ 120 → unsigned_abs (x -ℤ y) < 2 ^ 120
kept-small x y least most small = omega (arith, ints, least, most, small)

module _ (slots : SlotList) (p : PlaceCertValue) (can : CanLower slots p) where
  -- what a bidder gains at the payments stays in the range
  pub gain-small : (j : ℕ) → 0 < j → j ≤ length slots.bidders → unsigned_abs (gain_in slots p j) < 2 ^ 120
  gain-small j some low =
      let won = p.cert.den *ℤ worth_in (market_of_slots slots) p.cert.choice j in
      elim (cases_Bool (uses p.cert.choice j)) [
        | inl wins ↦ (
            let pays = (can.pays j).winner some low wins in
            let e = cond-true (uses p.cert.choice j) (won -ℤ of_bidder p.cert.pay j) (pos 0) wins in
            subst (λ (z : ℤ). unsigned_abs z < 2 ^ 120) (sym e) (kept-small won (of_bidder p.cert.pay j) pays.0 pays.1 (can.products j some low).1))
        | inr loses ↦ (
            let e = cond-false (uses p.cert.choice j) (won -ℤ of_bidder p.cert.pay j) (pos 0) loses in
            subst (λ (z : ℤ). unsigned_abs z < 2 ^ 120) (sym e) (omega (arith, ints)))
      ]

  -- with what the bidders gain at the payments, bids are worth the lowered amounts
  pub lowered-worth : (gains : List ℤ) → ((j : ℕ) → 0 < j → j ≤ length slots.bidders → of_bidder gains j ≡ gain_in slots p j)
      → (j i : ℕ) → 0 < j → j ≤ length slots.bidders → worth_with slots p.cert.den gains j i ≡ lowered_in (market_of_slots slots) p.cert j i
  lowered-worth gains same j i some low = ap (λ (z : ℤ). (p.cert.den *ℤ amount_of slots j i) -ℤ z) (same j some low)

  -- with what the bidders gain at the payments, no worth of a bid leaves the range
  pub lowered-small : (gains : List ℤ) → length slots.bidders ≤ length gains → ((j : ℕ) → 0 < j → j ≤ length slots.bidders
      → of_bidder gains j ≡ gain_in slots p j) → HasSmallWorths slots 0 p.cert.den gains
  lowered-small gains many same = record {
    count = many;
    bids = λ bits j i below some low new positive known may. can.bids bits j i below some low new positive
        (let e = bids-same slots j some in omega (arith, e, known)) may;
    gained = λ j some low. subst (λ (z : ℤ). unsigned_abs z < 2 ^ 120) (sym (same j some low)) (gain-small j some low);
  }

fits-small : (x : ℤ) → unsigned_abs x < 2 ^ 120 → FitsSigned w128 x
fits-small x h = omega (arith, ints, h)

-- a product of numbers of the program
pub product-is : (den won : ℤ) → FitsSigned w128 den → FitsSigned w128 won → unsigned_abs (den *ℤ won) < 2 ^ 120
    → to_z w128 (of_z w128 (to_z w128 (of_z w128 den) *ℤ to_z w128 (of_z w128 won))) ≡ den *ℤ won
product-is den won f g h = rw (to_z-of_z w128 den f, to_z-of_z w128 won g) (to_z-of_z w128 (den *ℤ won) (fits-small (den *ℤ won) h))

-- a difference of numbers of the program
pub less-same : (x y a b : ℤ) → x ≡ a → y ≡ b → x -ℤ y ≡ a -ℤ b
less-same x y a b e f = ap (λ (z : ℤ). z -ℤ y) e ∙ ap (λ (z : ℤ). a -ℤ z) f

-- a difference of numbers of at most 2^120, or ten times that, fits in 128 bits
pub less-fits : (x y a b : ℤ) → x ≡ a → y ≡ b → unsigned_abs a < 2 ^ 120 → unsigned_abs b ≤ 10 * 2 ^ 120 → FitsSigned w128 (x -ℤ y)
less-fits x y a b e f g h = omega (arith, ints, e, f, g, h)
