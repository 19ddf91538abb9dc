-- The conditions of a look, as its calls ask for them.
use Rattle.std.specs.Prelude.{◌≡◌, ℕ, suc, ◌+◌, ◌-◌, ◌<◌, ◌≤◌, ◌^◌, List, Bool, length, get_or, ℤ, pos, ◌*ℤ◌, ◌≤ℤ◌, ◌<ℤ◌}
use Rattle.std.proofs.Common.{arith, refl}
use Rattle.std.proofs.lemmas.Int.{ints}
use Rattle.auction_model.specs.Market.{Market, worth_in}
use Rattle.auction_model.specs.Greatest.{IsWinning}
use Rattle.auction_model.specs.Lawful.{IsMarket}
use Rattle.auction_model.specs.Lowered.{of_bidder}
use Rattle.auction_model.specs.Prices.{sum_over}
use Rattle.core_laws.proofs.Sizes.{won-range, paid-most}
use Rattle.blocking.specs.Look.{CanLook}
use Rattle.blocking.proofs.Parts.{part-range, more-bidders}

-- den times what a bidder wins is from 0 to below 2^120
pub low-at : (m : Market) (z : List ℕ) (den : ℤ) (at : List ℤ) → IsMarket m → IsWinning m z → CanLook m z den at → (k : ℕ)
    → k < length at → (pos 0 ≤ℤ (den *ℤ worth_in m z (k + 1))) × ((den *ℤ worth_in m z (k + 1)) <ℤ pos (2 ^ 120))
low-at m z den at lawful win c k lt = won-range m lawful z win.passed den _ c.lowered.den_positive c.lowered.range (k + 1) (omega arith)
    (omega (arith, c.asks.bidders))

-- each payment is from 0 to below 2^120
pub paid-at : (m : Market) (z : List ℕ) (den : ℤ) (at : List ℤ) → CanLook m z den at → (k : ℕ) → k < length at → (pos 0 ≤ℤ get_or at k (pos 0))
    × (get_or at k (pos 0) <ℤ pos (2 ^ 120))
paid-at m z den at c k lt =
    let e : suc k - 1 ≡ k = omega arith in
    let is : of_bidder at (suc k) ≡ get_or at k (pos 0) = rw e refl in
    let a = c.not_negative (suc k) (omega arith) (omega (arith, c.asks.bidders)) in
    let b = paid-most m (record { den = den; at = at }) c.not_negative k (omega (arith, c.asks.bidders)) in
    (omega (arith, ints), omega (arith, ints, c.range))

-- what some of the first k bidders pay
pub row-range : (m : Market) (z : List ℕ) (den : ℤ) (at : List ℤ) → CanLook m z den at → (s : ℕ → Bool) (k : ℕ)
    → k ≤ length at → (pos 0 ≤ℤ sum_over s (of_bidder at) k) × (sum_over s (of_bidder at) k <ℤ pos (2 ^ 120))
row-range m z den at c s k le =
    let n : k ≤ m.bidders = omega (arith, c.asks.bidders) in
    let r = part-range s (of_bidder at) m.bidders k c.not_negative n in
    let w = more-bidders (of_bidder at) m.bidders k (m.bidders - k) c.not_negative (omega arith) in
    (r.0, omega (arith, ints, c.range, r.1))
