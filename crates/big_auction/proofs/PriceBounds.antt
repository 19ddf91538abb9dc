-- How far the made prices rise.
use Rattle.std.proofs.Common.{◌≡◌, ℕ, zero, suc, ◌+◌, ◌-◌, ◌*◌, ◌^◌, ◌≤◌, List, [], ◌∷◌, None, refl, subst, inl, inr, arith}
use Rattle.std.specs.Prelude.{nat_le, sum}
use Rattle.std.specs.List.{AllByRecursion}
use Rattle.std.proofs.lemmas.Bool.{cases_Bool, le-leb}
use Rattle.std.proofs.lemmas.List.Sums.{sum_by-cons}
use Rattle.std.proofs.Math.Nat.{mul-le-mul_left, pow-le-pow_right}
use Rattle.auction_model.specs.Package.{cost_of}
use Rattle.auction_rules.specs.Step.{IsRaise, permille_at, stepped, ticks_of}
use Rattle.auction_rules.specs.Rounds.{demand, prices_after, raised_prices}
use Rattle.auction_rules.specs.Replies.{price_top}
use Rattle.auction_rules.proofs.Steps.{IsRaise-ticks_of}
use Rattle.auction_rules.proofs.Sound.{prices_after-rises}
use Rattle.big_auction.specs.MadeAward.{made_terms}

abbrev thresholds : List (ℕ × ℕ)
thresholds = (1, 100) ∷ (5, 200) ∷ []

few_permille : (excess : ℕ) → permille_at thresholds excess ≤ 1000
few_permille excess =
    elim (cases_Bool (nat_le 1 excess)) [
      | inl one ↦ elim (cases_Bool (nat_le 5 excess)) [ inl five ↦ rw (one, five) (omega arith) | inr few ↦ rw (one, few) (omega arith) ]
      | inr none ↦ elim (cases_Bool (nat_le 5 excess)) [ inl five ↦ rw (none, five) (omega arith) | inr few ↦ rw (none, few) (omega arith) ]
    ]

-- a price is at most doubled
pub few_ticks : (price permille : ℕ) → 1 ≤ price → permille ≤ 1000 → ticks_of 1 price permille ≤ price
few_ticks price permille some few =
    let raise : IsRaise 1 price permille (ticks_of 1 price permille * 1) = IsRaise-ticks_of 1 price permille (omega arith) in
    let up : price * permille ≤ price * 1000 = mul-le-mul_left price few in
    let least : ticks_of 1 price permille * 1 ≤ price * 1 = raise.least price (omega arith) (omega arith) in
    omega arith

-- a price of at least 1 and at most this
pub record IsBetween (most p : ℕ) : Type 0 where
  pub some : 1 ≤ p
  pub top : p ≤ most

stepped-between : (most p excess : ℕ) → IsBetween most p → IsBetween (2 * most) (stepped 1 thresholds p excess)
stepped-between most p excess is =
    let few : ticks_of 1 p (permille_at thresholds excess) ≤ p = few_ticks p (permille_at thresholds excess) is.some (few_permille excess) in
    record { some = omega (arith, is.some); top = omega (arith, is.top) }

between-more : (most p : ℕ) → IsBetween most p → IsBetween (2 * most) p
between-more most p is = record { some = is.some; top = omega (arith, is.top) }

all-more : (most : ℕ) (prices : List ℕ) → AllByRecursion (IsBetween most) prices → AllByRecursion (IsBetween (2 * most)) prices
all-more most [] are = tt
all-more most (p ∷ prices) are = (between-more most p are.0, all-more most prices are.1)

raised-between : (most : ℕ) (prices d supply : List ℕ) → AllByRecursion (IsBetween most) prices → AllByRecursion (IsBetween (2 * most))
    (raised_prices 1 thresholds prices d supply)
raised-between most [] d supply are = tt
raised-between most (p ∷ prices) [] supply are = all-more most (p ∷ prices) are
raised-between most (p ∷ prices) (n ∷ d) [] are = all-more most (p ∷ prices) are
raised-between most (p ∷ prices) (n ∷ d) (s ∷ supply) are =
    elim (cases_Bool (nat_le n s)) [
      | inl within ↦ rw within (between-more most p are.0, raised-between most prices d supply are.1)
      | inr over ↦ rw over (stepped-between most p (n - s) are.0, raised-between most prices d supply are.1)
    ]

-- after n rounds each price is at least 1 and at most 1500 times 2^n
pub prices-between : (held : ℕ → ℕ → List ℕ) (n : ℕ) → AllByRecursion (IsBetween (1500 * 2 ^ n)) (prices_after made_terms held n)
prices-between held zero = (
  record { some = omega arith; top = omega arith },
  (
    record { some = omega arith; top = omega arith },
    (record { some = omega arith; top = omega arith }, (record { some = omega arith; top = omega arith }, tt)),
  ),
)
prices-between held (suc n) =
    let e : 2 * (1500 * 2 ^ n) ≡ 1500 * 2 ^ suc n = omega arith in
    subst (λ (most : ℕ). AllByRecursion (IsBetween most) (prices_after made_terms held (suc n))) e
    (raised-between (1500 * 2 ^ n) (prices_after made_terms held n) (demand made_terms held (suc n)) made_terms.supply (prices-between held n))

-- after nine rounds at most no price is above this
small_power : (n : ℕ) → n ≤ 9 → 1500 * 2 ^ n ≤ 768000
small_power n few = let up : 2 ^ n ≤ 2 ^ 9 = pow-le-pow_right {n = 2} (omega arith) few in omega (arith, up)

all-below : (most top : ℕ) (prices : List ℕ) → most ≤ top → AllByRecursion (IsBetween most) prices → AllByRecursion (IsBetween top) prices
all-below most top [] low are = tt
all-below most top (p ∷ prices) low are = (record { some = are.0.some; top = omega (arith, are.0.top) }, all-below most top prices low are.1)

-- after at most nine rounds each price is at least 1 and at most 768,000
pub prices-small : (held : ℕ → ℕ → List ℕ) (n : ℕ) → n ≤ 9 → AllByRecursion (IsBetween 768000) (prices_after made_terms held n)
prices-small held n few = all-below (1500 * 2 ^ n) 768000 (prices_after made_terms held n) (small_power n few) (prices-between held n)

-- prices of at most 768,000 don't exceed the limit of prices
pub no_price_top : (category : ℕ) (prices : List ℕ) → AllByRecursion (IsBetween 768000) prices → price_top category prices ≡ None
no_price_top category [] are = refl
no_price_top category (p ∷ prices) are =
    let low : p ≤ 68719476736 = omega (arith, are.0.top) in
    rw (le-leb p 68719476736 low) (no_price_top (suc category) prices are.1)

-- what a package costs never falls
pub cost-rises : (held : ℕ → ℕ → List ℕ) (m n : ℕ) (lots : List ℕ) → cost_of (prices_after made_terms held m) lots ≤ cost_of
    (prices_after made_terms held (n + m)) lots
cost-rises held m zero lots = let e : m ≡ 0 + m = omega arith in subst (λ (k : ℕ). cost_of (prices_after made_terms held m) lots ≤ cost_of
    (prices_after made_terms held k) lots) e (omega arith)
cost-rises held m (suc n) lots =
    let e : suc (n + m) ≡ suc n + m = omega arith in
    let low : cost_of (prices_after made_terms held m) lots ≤ cost_of (prices_after made_terms held (suc (n + m))) lots
    = omega (arith, cost-rises held m n lots, prices_after-rises made_terms held (n + m) lots) in
    subst (λ (k : ℕ). cost_of (prices_after made_terms held m) lots ≤ cost_of (prices_after made_terms held k) lots) e low

-- at such prices a package costs at most 768,000 for each of its lots
pub cost-small : (prices lots : List ℕ) → AllByRecursion (IsBetween 768000) prices → cost_of prices lots ≤ 768000 * sum lots
cost-small [] lots are = omega arith
cost-small (p ∷ prices) [] are = omega arith
cost-small (p ∷ prices) (a ∷ lots) are =
    let first : a * p ≤ a * 768000 = mul-le-mul_left a are.0.top in
    omega (arith, first, cost-small prices lots are.1, sum_by-cons (λ (n : ℕ). n) a lots)
