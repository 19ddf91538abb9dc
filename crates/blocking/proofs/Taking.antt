-- What the search for the greatest lowered sum says of a look.
use Rattle.std.specs.Prelude.{◌≡◌, ℕ, zero, suc, ◌-◌, ◌<◌, ◌≤◌, ◌^◌, false, not, List, ℤ, pos, ◌+ℤ◌, ◌-ℤ◌, ◌*ℤ◌, ◌≤ℤ◌, ◌<ℤ◌, refl}
use Rattle.std.proofs.Common.{arith, ap, ◌∙◌, sym, FitsSigned}
use mir.Syntax.{w128}
use Rattle.std.proofs.lemmas.Int.{ints}
use Rattle.auction_model.specs.Market.{Market, value_of, worth_in}
use Rattle.auction_model.specs.Greatest.{IsWinning}
use Rattle.auction_model.specs.Lawful.{IsMarket}
use Rattle.auction_model.specs.Lowered.{of_bidder}
use Rattle.auction_model.specs.Prices.{IsUnblocked, paid, sum_over}
use Rattle.auction_model.specs.Blocks.{row_bound}
use Rattle.wide_num.proofs.Ints.{mul-add}
use Rattle.projection_laws.proofs.Order.{mul_nonneg}
use Rattle.core_laws.specs.Winners.{idle_row, has_member, bits_after, has_bit}
use Rattle.core_laws.specs.Surplus.{surpluses_of, lowered_sum}
use Rattle.core_laws.proofs.Excess.{IsPaid, taken, low-reached, free-unblocked, unblocked-free, not-below}
use Rattle.core_laws.proofs.Rows.{excess-bound, taken-same, bits-are_row, over-same, row-not_empty}
use Rattle.core_laws.proofs.Surplus.{surpluses-are}
use Rattle.core_laws.proofs.Bits.{bits-below, no-bit}
use Rattle.core_laws.proofs.Sizes.{worth-range, won-low}
use Rattle.blocking.specs.declared.look.Block.{Block}
use Rattle.blocking.specs.Look.{CanLook, IsFound, IsBlock}
use Rattle.blocking.proofs.Parts.{part-range, small-fits}
use Rattle.blocking.proofs.Sizes.{row-range}

module _ (m : Market) (lawful : IsMarket m) (z : List ℕ) (win : IsWinning m z) (den : ℤ) (at : List ℤ) (c : CanLook m z den at) (f : List ℕ) (sum : ℤ)
    (found : IsFound m z den at f sum) where
  own : IsPaid m z (record { den = den; at = at }) (surpluses_of m z den at)
  own = surpluses-are m z (record { den = den; at = at }) c.asks

  -- if the greatest lowered sum isn't above all payments, nothing blocks the point
  pub look-free : sum ≤ℤ paid m (record { den = den; at = at }) → IsUnblocked m z (record { den = den; at = at })
  look-free le = let is = found.sum in free-unblocked m lawful z (record { den = den; at = at }) (surpluses_of m z den at) own f found.first
      (omega (arith, ints))

  -- if it is above them, something does
  pub look-blocks : paid m (record { den = den; at = at }) <ℤ sum → ¬ IsUnblocked m z (record { den = den; at = at })
  look-blocks lt free = let is = found.sum in let h = unblocked-free m lawful z (record { den = den; at = at })
      (surpluses_of m z den at) own f found.first free in absurd (omega (arith, ints))

  -- the excess and what the row pays are den times the bound
  pub look-total : (sum -ℤ paid m (record { den = den; at = at })) +ℤ sum_over (idle_row m z (record { den = den; at = at }) f)
      (of_bidder at) m.bidders ≡ den *ℤ row_bound m z (idle_row m z (record { den = den; at = at }) f) f
  look-total =
      let is = found.sum in
      let a = low-reached m lawful z (record { den = den; at = at }) (surpluses_of m z den at) own f found.first.passed in
      let b = excess-bound m z (record { den = den; at = at }) (idle_row m z (record { den = den; at = at }) f) f in
      omega (arith, ints)

  -- the greatest lowered sum isn't below all payments
  pub look-below : paid m (record { den = den; at = at }) ≤ℤ sum
  look-below = let is = found.sum in let h = not-below m lawful z (record { den = den; at = at }) (surpluses_of m z den at) own f found.first win in
      omega (arith, ints)

  -- what the excess and the row add up to is in the range
  pub look-range : (den *ℤ row_bound m z (idle_row m z (record { den = den; at = at }) f) f) <ℤ pos (2 ^ 120)
  look-range =
      let d = worth-range m lawful z win.passed den _ c.lowered.den_positive c.lowered.range in
      let s = idle_row m z (record { den = den; at = at }) f in
      let v = win.greatest f found.first.passed in
      let o = (part-range (λ j. not (s j)) (worth_in m z) m.bidders m.bidders (λ j q r. (won-low m lawful z win.passed j q r).0) (omega arith)).0 in
      let b = row_bound m z s f in
      let w = value_of m z in
      let p = mul_nonneg den (w -ℤ b) (let q = c.lowered.den_positive in omega (arith, ints)) (omega (arith, ints)) in
      let e = mul-add den (w -ℤ b) b in
      let g : w -ℤ b +ℤ b ≡ w = omega (arith, ints) in
      let h = ap (λ (t : ℤ). den *ℤ t) g in
      omega (arith, ints, d.0, d.1, d.2)

  -- the set of bits and the idle row are the same
  same-row : (j : ℕ) → 0 < j → idle_row m z (record { den = den; at = at }) f j ≡ has_member z (bits_after z (idle_row m z (record { den = den; at = at }) f) 0) j
  same-row j q = sym (bits-are_row m z (record { den = den; at = at }) f j q)

  -- and it isn't empty if the excess is above 0
  some-member : paid m (record { den = den; at = at }) <ℤ sum → (x : ℕ) → bits_after z (idle_row m z (record { den = den; at = at }) f) 0 ≡ x → 0 < x
  some-member above zero e =
      let is = found.sum in
      let none : (j : ℕ) → 0 < j → j ≤ m.bidders → idle_row m z (record { den = den; at = at }) f j ≡ false =
      λ j q le. same-row j q ∙ ap (λ t. has_bit z t (j - 1)) e ∙ no-bit z (j - 1) in
      let h = row-not_empty m lawful z (record { den = den; at = at }) c.lowered.den_positive (surpluses_of m z den at) own f found.first win none in
      absurd (omega (arith, ints))
  some-member above (suc n) e = omega arith

  -- the choice with its idle row, the bound of that row and an excess above 0 is a block of the turn
  pub look-block : (b : Block) → b.row.members ≡ bits_after z (idle_row m z (record { den = den; at = at }) f) 0
      → b.row.bound ≡ row_bound m z (idle_row m z (record { den = den; at = at }) f) f
      → b.choice ≡ f → b.excess ≡ sum -ℤ paid m (record { den = den; at = at }) → pos 0 <ℤ b.excess → IsBlock m z den at b
  look-block b bits bound choice excess above =
      let is = found.sum in
      let gain : b.excess ≡ lowered_sum m z (record { den = den; at = at }) f -ℤ paid m (record { den = den; at = at }) = omega (arith, ints) in
      let t = taken-same m z (record { den = den; at = at }) f (idle_row m z (record { den = den; at = at }) f)
      (has_member z (bits_after z (idle_row m z (record { den = den; at = at }) f) 0))
      (lowered_sum m z (record { den = den; at = at }) f -ℤ paid m (record { den = den; at = at })) (λ j q le. same-row j q)
      (taken m lawful z (record { den = den; at = at }) (surpluses_of m z den at) own f found.first) in
      let outside = over-same (λ j. not (idle_row m z (record { den = den; at = at }) f j))
      (λ j. not (has_member z (bits_after z (idle_row m z (record { den = den; at = at }) f) 0) j)) (worth_in m z) m.bidders
      (λ j q le. ap not (same-row j q)) in
      record {
        block = record {
          taken = rw (bits, choice, gain) t;
          some = above;
          bound = rw (bits, choice) (bound ∙ ap (λ (x : ℤ). value_of m f -ℤ x) outside);
        };
        members = rw bits (some-member (omega (arith, ints)) _ refl, bits-below z (idle_row m z (record { den = den; at = at }) f) 0);
      }

-- the excess and what the row pays: their sum is in the range, and is den times the bound
pub row-total : (m : Market) → IsMarket m → (z : List ℕ) → IsWinning m z → (den : ℤ) (at : List ℤ) → CanLook m z den at → (f : List ℕ) (excess rest : ℤ)
    → IsFound m z den at f (excess +ℤ paid m (record { den = den; at = at })) → rest ≡ sum_over (idle_row m z (record { den = den; at = at }) f)
    (of_bidder at) m.bidders
    → (pos 0 ≤ℤ (excess +ℤ rest)) × ((excess +ℤ rest) <ℤ pos (2 ^ 120)) × (den *ℤ row_bound m z (idle_row m z (record { den = den; at = at }) f) f ≡ excess +ℤ
    rest)
row-total m lawful z win den at c f excess rest found is =
    let total = look-total m lawful z win den at c f (excess +ℤ paid m (record { den = den; at = at })) found in
    let below = look-below m lawful z win den at c f (excess +ℤ paid m (record { den = den; at = at })) found in
    let range = look-range m lawful z win den at c f (excess +ℤ paid m (record { den = den; at = at })) found in
    let pays = row-range m z den at c (idle_row m z (record { den = den; at = at }) f) m.bidders (omega (arith, c.asks.bidders)) in
    (omega (arith, ints), omega (arith, ints), omega (arith, ints))

-- the sum that was found, as the excess and all payments
pub found-again : (m : Market) (z : List ℕ) (den : ℤ) (at : List ℤ) (f : List ℕ) (sum excess : ℤ) → IsFound m z den at f sum
    → excess ≡ sum -ℤ paid m (record { den = den; at = at }) → IsFound m z den at f (excess +ℤ paid m (record { den = den; at = at }))
found-again m z den at f sum excess found is = record { first = found.first; sum = let s = found.sum in omega (arith, ints) }

-- the excess is in the range
pub excess-fits : (m : Market) → IsMarket m → (z : List ℕ) → IsWinning m z → (den : ℤ) (at : List ℤ) → CanLook m z den at → (f : List ℕ) (sum : ℤ)
    → IsFound m z den at f sum → FitsSigned w128 (sum -ℤ paid m (record { den = den; at = at }))
excess-fits m lawful z win den at c f sum found =
    let total = look-total m lawful z win den at c f sum found in
    let below = look-below m lawful z win den at c f sum found in
    let range = look-range m lawful z win den at c f sum found in
    let pays = row-range m z den at c (idle_row m z (record { den = den; at = at }) f) m.bidders (omega (arith, c.asks.bidders)) in
    small-fits (sum -ℤ paid m (record { den = den; at = at })) (omega (arith, ints)) (omega (arith, ints, pays.0))
