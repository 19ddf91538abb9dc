-- Amounts: their bounds, and the greatest for a package.
use Rattle.std.proofs.Common.{List, [], ap, arith, false, get_or, inl, inr, length, map, max, subst, suc, sym, zero, ℕ, ◌*◌, ◌++◌, ◌+◌, ◌-◌, ◌<◌, ◌^◌}
use Rattle.std.proofs.Common.{◌∙◌, ◌∷◌, ◌≡◌, ◌≤◌}
use Rattle.std.specs.Prelude.{sum, if◌then◌else◌}
use Rattle.std.specs.List.{All}
use Rattle.std.proofs.lemmas.Bool.{cases_Bool, cond-true, cond-false}
use Rattle.std.proofs.lemmas.List.{length-map}
use Rattle.std.proofs.lemmas.List.Sums.{sum_by-cons}
use Rattle.std.proofs.Math.Nat.{mul-le-mul, mul-le-mul_left}
use Rattle.auction_model.specs.Book.{BookBid}
use Rattle.auction_model.specs.Package.{cost_of}
use Rattle.auction_model.specs.PackageTests.{is_empty, is_same}
use Rattle.auction_rules.specs.Rounds.{OwnRound}
use Rattle.auction_rules.specs.State.{Round, own_of}
use Rattle.auction_rules.specs.Caps.{clock_bid, greatest, highest, no_round}
use Rattle.auction_model.proofs.PackageTestLaws.{is_same-refl}
use Rattle.auction_rules.proofs.BookCaps.{cost_of-empty, greatest-append}
use Rattle.relative_cap.specs.OwnRounds.{rounds_of, own_in}
use Rattle.relative_cap.proofs.RoundLaws.{own-at}

cost-most : (prices lots : List ℕ) → All (λ p. p ≤ 2 ^ 36) prices → cost_of prices lots ≤ 2 ^ 36 * sum lots
cost-most [] lots most = omega arith
cost-most (p ∷ prices) [] most = omega arith
cost-most (p ∷ prices) (a ∷ lots) most =
    let parts : sum (a ∷ lots) ≡ a + sum lots = sum_by-cons (λ (n : ℕ). n) a lots in
    let own : p ≤ 2 ^ 36 = most 0 p (omega arith) in
    let term : p * a ≤ 2 ^ 36 * a = mul-le-mul own (omega arith) in
    omega (arith, parts, term, cost-most prices lots (λ k d inside. most (suc k) d (omega arith)))

-- the price of at most 40 lots
pub price-most : (prices lots : List ℕ) → All (λ p. p ≤ 2 ^ 36) prices → sum lots ≤ 40 → cost_of prices lots ≤ 2 ^ 42
price-most prices lots most few =
    let all : 2 ^ 36 * sum lots ≤ 2 ^ 36 * 40 = mul-le-mul_left (2 ^ 36) few in
    omega (arith, cost-most prices lots most, all)

-- the greatest of clock bids and list
pub highest-is : (rounds : List OwnRound) (list : List BookBid) (lots : List ℕ) (clock listed best : ℕ) → is_empty lots ≡ false
    → clock ≡ greatest lots (map clock_bid rounds) → listed ≡ greatest lots list → best ≡ max clock listed → best ≡ highest rounds list lots
highest-is rounds list lots clock listed best some by_clock by_list is =
    let both : greatest lots (map clock_bid rounds ++ list) ≡ max (greatest lots (map clock_bid rounds)) (greatest lots list) =
    greatest-append lots (map clock_bid rounds) list in
    is ∙ ap (λ n. max n listed) by_clock ∙ ap (max (greatest lots (map clock_bid rounds))) by_list ∙ sym both ∙ sym (cond-false (is_empty lots) 0 _ some)

-- each clock bid is among them
clock-least : (rounds : List OwnRound) (k : ℕ) (d : OwnRound) → k < length rounds
    → cost_of (get_or rounds k d).prices (get_or rounds k d).held ≤ greatest (get_or rounds k d).held (map clock_bid rounds)
clock-least [] k d inside = absurd (omega arith)
clock-least (r ∷ rounds) zero d inside =
    let own : (if is_same r.held r.held then cost_of r.prices r.held else 0) ≡ cost_of r.prices r.held =
    cond-true (is_same r.held r.held) (cost_of r.prices r.held) 0 (is_same-refl r.held) in
    omega (arith, own)
clock-least (r ∷ rounds) (suc k) d inside = omega (arith, clock-least rounds k d (omega arith))

highest-floor : (rounds : List OwnRound) (list : List BookBid) (o : OwnRound) → cost_of o.prices o.held ≤ greatest o.held (map clock_bid rounds)
    → cost_of o.prices o.held ≤ highest rounds list o.held
highest-floor rounds list o least =
    elim (cases_Bool (is_empty o.held)) [
      | inl empty ↦ omega (arith, cost_of-empty o.prices o.held empty)
      | inr some ↦
          let is : highest rounds list o.held ≡ greatest o.held (map clock_bid rounds ++ list) = cond-false (is_empty o.held) 0 _ some in
          omega (arith, is, greatest-append o.held (map clock_bid rounds) list, least)
    ]

-- what was held in a round has at least its price in it as its highest amount
pub price-least : (history : List Round) (list : List BookBid) (j r : ℕ) (prices held : List ℕ) → 1 ≤ r → r ≤ length history
    → prices ≡ (own_in history j r).prices → held ≡ (own_in history j r).held → cost_of prices held ≤ highest (rounds_of j history) list held
price-least history list j r prices held low high by_prices by_held =
    let count : length (rounds_of j history) ≡ length history = length-map history (own_of j) in
    let least : cost_of (own_in history j r).prices (own_in history j r).held ≤ greatest (own_in history j r).held (map clock_bid (rounds_of j history))
    = subst (λ (o : OwnRound). cost_of o.prices o.held ≤ greatest o.held (map clock_bid (rounds_of j history))) (own-at j history r low high)
    (clock-least (rounds_of j history) (r - 1) no_round (omega arith)) in
    subst (λ q. cost_of q held ≤ highest (rounds_of j history) list held) (sym by_prices)
    (subst (λ q. cost_of (own_in history j r).prices q ≤ highest (rounds_of j history) list q) (sym by_held)
    (highest-floor (rounds_of j history) list (own_in history j r) least))
