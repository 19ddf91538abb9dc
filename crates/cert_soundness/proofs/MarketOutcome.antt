-- The soundness of certificates in any market: what their tests show makes the parts give the Vickrey prices, and the choice and the payments
-- the core outcome. Books and placements are its cases.
use Rattle.std.specs.Prelude.{◌≡◌, ℕ, suc, ◌<◌, ◌≤◌, IsTrue, List, length, pos, ◌≤ℤ◌}
use Rattle.std.proofs.Common.{arith}
use Rattle.std.proofs.lemmas.Int.{ints}
use Rattle.auction_model.specs.Greatest.{IsGreatest}
use Rattle.auction_model.specs.Lowered.{of_bidder}
use Rattle.auction_model.specs.Market.{Market, sum_after, uses, value_of}
use Rattle.auction_model.specs.Prices.{AreVickreyPrices, IsCoreOutcome, allowed_without, everyone, sum_over}
use Rattle.auction_model.proofs.Shares.{share-positive, share-whole}
use Rattle.projection_laws.specs.Multipliers.{AreShares}
use Rattle.cert_grammar.specs.Certificate.{CertValue, part_of}
use Rattle.cert_soundness.specs.MarketPrices.{lowered_in, prices_in}
use Rattle.cert_soundness.specs.MarketTests.{PaysWithinBids, HasTightRow, ShowsLeastSum, ShowsNearest}
use Rattle.cert_soundness.specs.Sound.{cert_point}
use Rattle.cert_soundness.proofs.Aims.{share_from, weight_from, least_sum, nearest_point}
use Rattle.cert_soundness.proofs.Bounds.{counted}
use Rattle.cert_soundness.proofs.Core.{core}
use Rattle.cert_soundness.proofs.Prices.{prices}

-- What the tests show. The choices of the head and of the parts are greatest; payments, rows and multipliers pass; and no allowed choice counts
-- more, by the lowered worths, than all that is paid.
pub record ShowsOutcome (m : Market) (w : ℕ → ℕ) (c : CertValue) : Type 0 where
  pub none : (j : ℕ) → m.worth j 0 ≡ pos 0
  pub lengths : (f : List ℕ) → IsTrue (m.allowed f) → length f ≡ m.bidders
  pub weights : (k : ℕ) → k < m.bidders → (1 ≤ w (suc k)) × (w (suc k) ≤ 20)
  pub den_positive : pos 1 ≤ℤ c.den
  pub pay_is : length c.pay ≡ m.bidders
  pub greatest : IsGreatest m.allowed (value_of m) c.choice
  pub value : value_of m c.choice ≡ c.value
  pub parts : (j : ℕ) → 0 < j → j ≤ m.bidders → IsTrue (uses c.choice j)
      → IsGreatest (allowed_without m j) (value_of m) (part_of c.withouts j).choice
  pub pays : (place : ℕ) → PaysWithinBids m c place
  pub rows : (place : ℕ) → HasTightRow m c place
  pub least : (place : ℕ) → ShowsLeastSum m c place
  pub nearest : (place : ℕ) → ShowsNearest m w c place
  pub most : (f : List ℕ) → IsTrue (m.allowed f) → sum_after (counted (lowered_in m c)) 0 f ≤ℤ sum_over everyone (of_bidder c.pay) m.bidders

module _ (m : Market) (w : ℕ → ℕ) (c : CertValue) (shown : ShowsOutcome m w c) where
  -- each share is positive, and times its weight it is 232,792,560
  shares : AreShares m.bidders (pos 232792560) (share_from w) (weight_from w)
  shares = record {
    not_negative = omega (arith, ints);
    positive = λ k lt. (let bounds = shown.weights k lt in share-positive (w (suc k)) bounds.0 bounds.1);
    whole = λ k lt. (let bounds = shown.weights k lt in share-whole (w (suc k)) bounds.0 bounds.1);
  }

  -- the parts give the Vickrey prices
  pub vickrey : AreVickreyPrices m c.choice (prices_in m c)
  vickrey = prices m c shown.value shown.parts

  -- the choice and the payments are the core outcome
  pub outcome : IsCoreOutcome m w c.choice (cert_point c)
  outcome = record {
    greatest = shown.greatest;
    core = core m shown.none c shown.pays shown.den_positive shown.pay_is shown.lengths shown.most;
    least = least_sum m w shares c shown.den_positive shown.pays shown.rows shown.least;
    nearest = λ v is. nearest_point m w shares c shown.den_positive shown.pays shown.rows shown.least vickrey v is shown.nearest;
  }
