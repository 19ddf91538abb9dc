-- Sums, products and tests over counts, one category at a time.
use Rattle.std.specs.Prelude.{◌≡◌, ℕ, ◌+◌, ◌*◌, ◌^◌, ◌≤◌, ◌<◌, false, ◌&&◌, ◌==◌, List, [], ◌∷◌, length, sum, drop, get_or, refl}
use Rattle.std.specs.List.{list_all}
use Rattle.std.proofs.Common.{◌∙◌, ap, arith, leb}
use Rattle.std.proofs.lemmas.Bool.{and_left, lt-leb, le-leb}
use Rattle.std.proofs.lemmas.List.Sums.{sum_by-cons}
use Rattle.std.proofs.Math.Nat.{mul-le-mul, pow-succ', pow-le-pow_right}
use Rattle.auction_model.specs.Package.{is_within, cost_of}
use Rattle.auction_model.specs.Place.{states_of}
use Rattle.auction_model.proofs.PlaceLaws.{states-positive}
use Rattle.lots.proofs.Steps.{drop-at, place-at_most}

-- 40 lots in 6 categories have at most 41 ^ 6 states
states-most : (s : List ℕ) → sum s ≤ 40 → states_of s ≤ 41 ^ length s
states-most [] h = omega arith
states-most (a ∷ s) h =
    let parts : sum (a ∷ s) ≡ a + sum s = sum_by-cons (λ (n : ℕ). n) a s in
    let own : a + 1 ≤ 41 = omega arith in
    let rest = states-most s (omega arith) in
    let both : (a + 1) * states_of s ≤ 41 * 41 ^ length s = mul-le-mul own rest in
    rw pow-succ' (omega arith)

-- with at most 40 lots and at most 6 categories there are no more than 41 ^ 6 states
pub states-small : (s : List ℕ) → sum s ≤ 40 → length s ≤ 6 → states_of s ≤ 41 ^ 6
states-small s h k =
    let most = states-most s h in
    let power : 41 ^ length s ≤ 41 ^ 6 = pow-le-pow_right {n = 41} (omega arith) k in
    omega arith

-- a product so far times the states of the rest is all states, also with one category more in the product
pub states-step : (s : List ℕ) (i states : ℕ) → i < length s → states * states_of (drop i s) ≡ states_of s
    → states * (get_or s i 0 + 1) * states_of (drop (i + 1) s) ≡ states_of s
states-step s i states h e =
    let is : states * states_of (drop i s) ≡ states * states_of (get_or s i 0 ∷ drop (i + 1) s) = ap (λ l. states * states_of l) (drop-at s i h) in
    omega arith

-- a product so far is no more than all states
pub states-so_far : (s : List ℕ) (i states : ℕ) → i < length s → sum s ≤ 40 → length s ≤ 6 → states * states_of (drop i s) ≡ states_of s
    → states * (get_or s i 0 + 1) ≤ 41 ^ 6
states-so_far s i states h few short e =
    let whole = states-step s i states h e in
    let below = place-at_most (states * (get_or s i 0 + 1)) (states_of (drop (i + 1) s)) 0 (states_of s) (states-positive (drop (i + 1) s)) (omega arith) in
    let most = states-small s few short in
    omega arith

-- of the categories from one on, a package is within a supply if it is there and in those after
pub within-step : (p s : List ℕ) (i : ℕ) → i < length p → length p ≡ length s → is_within (drop i p) (drop i s) ≡ leb (get_or p i 0)
    (get_or s i 0) && is_within (drop (i + 1) p) (drop (i + 1) s)
within-step p s i h e =
    let own : i < length s = omega arith in
    rw (drop-at p i h, drop-at s i own) refl

-- if a count is above the supply's, the package from there on isn't within it
pub within-fails : (p s : List ℕ) (i : ℕ) → i < length p → length p ≡ length s → get_or s i 0 < get_or p i 0 → is_within (drop i p) (drop i s) ≡ false
within-fails p s i h e low =
    within-step p s i h e ∙ and_left _ (is_within (drop (i + 1) p) (drop (i + 1) s)) (lt-leb (get_or p i 0) (get_or s i 0) low)

-- if a count isn't above the supply's, the categories after show whether the package is within it
pub within-goes_on : (p s : List ℕ) (i : ℕ) → i < length p → length p ≡ length s → get_or p i 0 ≤ get_or s i 0
    → is_within (drop i p) (drop i s) ≡ is_within (drop (i + 1) p) (drop (i + 1) s)
within-goes_on p s i h e low =
    within-step p s i h e ∙ ap (λ b. b && is_within (drop (i + 1) p) (drop (i + 1) s)) (le-leb (get_or p i 0) (get_or s i 0) low)

-- a package of which each count is 0 is within nothing
pub none-within : (p : List ℕ) → list_all (λ n. n == 0) p ≡ is_within p []
none-within [] = refl
none-within (a ∷ p) = ap (λ b. (a == 0) && b) (none-within p)

-- a cost so far and the cost of the rest have the same sum with one category more in the cost so far
pub cost-step : (prices counts : List ℕ) (i cost : ℕ) → i < length counts → length prices ≡ length counts
    → cost + cost_of (drop i prices) (drop i counts) ≡ (cost + get_or prices i 0 * get_or counts i 0) + cost_of (drop (i + 1) prices) (drop (i + 1) counts)
cost-step prices counts i cost h e =
    let own : i < length prices = omega arith in
    rw (drop-at counts i h, drop-at prices i own) (omega arith)
