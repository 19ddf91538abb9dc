-- If each part's choice is greatest of those without its winner, the parts give the Vickrey prices of any market.
use Rattle.std.specs.Prelude.{◌≡◌, ℕ, ◌≤◌, ◌<◌, Bool, IsTrue, ℤ, pos, ◌+ℤ◌, ◌-ℤ◌, ◌≤ℤ◌, if◌then◌else◌}
use Rattle.std.proofs.Common.{sym, ap, subst, arith}
use Rattle.std.proofs.lemmas.Int.{ints}
use Rattle.auction_model.specs.Greatest.{IsGreatest, IsGreatestValue}
use Rattle.auction_model.specs.Market.{Market, uses, value_of, worth_in}
use Rattle.auction_model.specs.Prices.{AreVickreyPrices, allowed_without}
use Rattle.cert_grammar.specs.Certificate.{CertValue, part_of}
use Rattle.cert_soundness.specs.MarketTests.{vickrey_in}
use Rattle.cert_soundness.specs.MarketPrices.{prices_in}

module _ (m : Market) (c : CertValue) (value_is : value_of m c.choice ≡ c.value) where
  winner-price : (j : ℕ) → IsGreatest (allowed_without m j) (value_of m) (part_of c.withouts j).choice
      → IsGreatestValue (allowed_without m j) (value_of m) ((vickrey_in m c j +ℤ value_of m c.choice) -ℤ worth_in m c.choice j)
  winner-price j part =
      let chosen = (part_of c.withouts j).choice in
      let is : value_of m chosen ≡ (vickrey_in m c j +ℤ value_of m c.choice) -ℤ worth_in m c.choice j = omega (arith, ints, value_is) in
      record {
        reached = (chosen, part.passed, is);
        bound = λ d t. subst (λ (x : ℤ). value_of m d ≤ℤ x) is (part.greatest d t);
      }

  -- if each part's choice is the greatest without its winner, the parts give the Vickrey prices
  pub prices : ((j : ℕ) → 0 < j → j ≤ m.bidders → IsTrue (uses c.choice j) → IsGreatest (allowed_without m j) (value_of m) (part_of c.withouts j).choice)
      → AreVickreyPrices m c.choice (prices_in m c)
  prices parts j some low = (
    λ wins. subst (λ (x : ℤ). IsGreatestValue (allowed_without m j) (value_of m) ((x +ℤ value_of m c.choice) -ℤ worth_in m c.choice j))
        (sym (ap (λ (b : Bool). if b then vickrey_in m c j else pos 0) wins)) (winner-price j (parts j some low wins)),
    λ loses. ap (λ (b : Bool). if b then vickrey_in m c j else pos 0) loses,
  )
