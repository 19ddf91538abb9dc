-- The sizes of what winners win with, times the denominator, and of what bidders pay.
use Rattle.std.specs.Prelude.{IsTrue, List, false, negsuc, not, pos, refl, suc, true, unsigned_abs, zero, ℕ, ℤ, ◌*ℤ◌, ◌*◌, ◌+◌, ◌<ℤ◌, ◌<◌, ◌==◌, ◌^◌}
use Rattle.std.specs.Prelude.{◌≡◌, ◌≤ℤ◌, ◌≤◌}
use Rattle.std.proofs.Common.{sym, ◌∙◌, ap, arith}
use Rattle.std.proofs.lemmas.Int.{ints}
use Rattle.std.proofs.Math.Nat.{mul-le-mul_left, mul-le-mul_right}
use Rattle.std.proofs.lemmas.Bool.{ne_eqb}
use Rattle.auction_model.specs.Market.{Market, value_of, number_of, worth_in}
use Rattle.auction_model.specs.Lawful.{IsMarket}
use Rattle.auction_model.specs.Lowered.{of_bidder}
use Rattle.auction_model.specs.Prices.{Point, everyone, paid}
use Rattle.wide_num.specs.Sums.{total}
use Rattle.projection_laws.proofs.Sums.{term-le, total-nonneg}
use Rattle.core_laws.proofs.Sums.{over-is, choice-is}

-- what a bidder wins with is no more than the worth of the winners
pub won-low : (m : Market) → IsMarket m → (z : List ℕ) → IsTrue (m.allowed z) → (j : ℕ) → 0 < j → j ≤ m.bidders
    → (pos 0 ≤ℤ worth_in m z j) × (worth_in m z j ≤ℤ value_of m z)
won-low m lawful z t zero some inside = absurd (omega arith)
won-low m lawful z t (suc k) some inside =
    let s : value_of m z ≡ total m.bidders (λ k. worth_in m z (suc k)) = choice-is m.worth z ∙ ap (λ n. total n (λ k. worth_in m z (suc k)))
    (lawful.lengths z t) in
    let h = term-le m.bidders (λ k. worth_in m z (suc k)) (λ i lt. lawful.not_negative z (suc i) t (omega arith) (omega arith)) k (omega arith) in
    (lawful.not_negative z (suc k) t (omega arith) (omega arith), omega (arith, ints))

product : (n : ℕ) (d w v : ℤ) (r : ℕ) → 0 < n → pos 1 ≤ℤ d → pos 0 ≤ℤ w → w ≤ℤ v → n * unsigned_abs d * unsigned_abs v + r < 2 ^ 120
    → (pos 0 ≤ℤ (d *ℤ w)) × ((d *ℤ w) <ℤ pos (2 ^ 120))
product zero d w v r some a b c h = absurd (omega arith)
product (suc n) (negsuc d) w v r some a b c h = absurd (omega (arith, ints))
product (suc n) (pos d) (negsuc w) v r some a b c h = absurd (omega (arith, ints))
product (suc n) (pos d) (pos w) (negsuc v) r some a b c h = absurd (omega (arith, ints))
product (suc n) (pos d) (pos w) (pos v) r some a b c h =
    let x0 : 1 * d ≤ suc n * d = mul-le-mul_right d (let y : 1 ≤ suc n = omega arith in y) in
    let x : d ≤ suc n * d = omega (arith, x0) in
    let y : d * v ≤ suc n * d * v = mul-le-mul_right v (omega (arith, x)) in
    let z : d * w ≤ d * v = mul-le-mul_left d (omega (arith, ints)) in
    (omega (arith, ints), omega (arith, ints))

-- den times what any one bidder wins with is at least 0 and in the range
pub won-range :
    (m : Market) → IsMarket m → (z : List ℕ) → IsTrue (m.allowed z) → (den : ℤ) (r : ℕ) → pos 1 ≤ℤ den
    → m.bidders * unsigned_abs den * unsigned_abs (value_of m z) + r < 2 ^ 120 → (j : ℕ) → 0 < j → j ≤ m.bidders
    → (pos 0 ≤ℤ (den *ℤ worth_in m z j)) × ((den *ℤ worth_in m z j) <ℤ pos (2 ^ 120))
won-range m lawful z t den r dp range j some inside =
    let w = won-low m lawful z t j some inside in
    product m.bidders den (worth_in m z j) (value_of m z) r (omega arith) dp w.0 w.1 range

-- what a bidder pays is no more than what is paid
pub paid-most : (m : Market) (p : Point) → ((j : ℕ) → 0 < j → j ≤ m.bidders → pos 0 ≤ℤ of_bidder p.at j) → (k : ℕ) → k < m.bidders
    → of_bidder p.at (suc k) ≤ℤ paid m p
paid-most m p h k lt =
    let s = over-is everyone (of_bidder p.at) m.bidders in
    let t = term-le m.bidders (λ k. of_bidder p.at (suc k)) (λ i li. h (suc i) (omega arith) (omega arith)) k lt in
    omega (arith, ints)

-- den times the worth of the winners is in the range
pub worth-range :
    (m : Market) → IsMarket m → (z : List ℕ) → IsTrue (m.allowed z) → (den : ℤ) (r : ℕ) → pos 1 ≤ℤ den
    → m.bidders * unsigned_abs den * unsigned_abs (value_of m z) + r < 2 ^ 120 → (pos 0 ≤ℤ value_of m z) × (pos 0 ≤ℤ (den *ℤ value_of m z))
    × ((den *ℤ value_of m z) <ℤ pos (2 ^ 120))
worth-range m lawful z t den r dp range =
    let s : value_of m z ≡ total m.bidders (λ k. worth_in m z (suc k)) = choice-is m.worth z ∙ ap (λ n. total n (λ k. worth_in m z (suc k)))
    (lawful.lengths z t) in
    let h = total-nonneg m.bidders (λ k. worth_in m z (suc k)) (λ i lt. lawful.not_negative z (suc i) t (omega arith) (omega arith)) in
    by m.bidders refl s h
  where
    by : (n : ℕ) → m.bidders ≡ n → value_of m z ≡ total m.bidders (λ k. worth_in m z (suc k)) → pos 0 ≤ℤ total m.bidders (λ k. worth_in m z (suc k))
        → (pos 0 ≤ℤ value_of m z) × (pos 0 ≤ℤ (den *ℤ value_of m z)) × ((den *ℤ value_of m z) <ℤ pos (2 ^ 120))
    by zero e s h =
        let v : value_of m z ≡ pos 0 = s ∙ ap (λ n. total n (λ k. worth_in m z (suc k))) e in
        let w : den *ℤ value_of m z ≡ pos 0 = ap (λ (t : ℤ). den *ℤ t) v ∙ omega (arith, ints) in
        (omega (arith, ints), omega (arith, ints), omega (arith, ints))
    by (suc n) e s h =
        let p = product m.bidders den (value_of m z) (value_of m z) r (omega arith) dp (omega (arith, ints)) (omega (arith, ints)) range in
        (omega (arith, ints), p.0, p.1)

-- the value of an allowed choice is never negative
pub worth-nonneg : (m : Market) → IsMarket m → (z : List ℕ) → IsTrue (m.allowed z) → pos 0 ≤ℤ value_of m z
worth-nonneg m lawful z t =
    let s : value_of m z ≡ total m.bidders (λ k. worth_in m z (suc k)) = choice-is m.worth z ∙ ap (λ n. total n (λ k. worth_in m z (suc k)))
    (lawful.lengths z t) in
    let h = total-nonneg m.bidders (λ k. worth_in m z (suc k)) (λ i lt. lawful.not_negative z (suc i) t (omega arith) (omega arith)) in
    omega (arith, ints)

-- a bidder that the choice doesn't use wins with 0
pub unused-worth : (m : Market) → IsMarket m → (z : List ℕ) (k : ℕ) → not (number_of z (suc k) == 0) ≡ false → worth_in m z (suc k) ≡ pos 0
unused-worth m lawful z k u = by (number_of z (suc k)) u
  where
    by : (i : ℕ) → not (i == 0) ≡ false → m.worth (suc k) i ≡ pos 0
    by zero q = lawful.none (suc k)
    by (suc i) q = absurd (lie (sym (ap not (ne_eqb (suc i) 0 (omega arith))) ∙ q))
      where
        lie : true ≡ false → ⊥
        lie h = cc
