-- What packages ask for together, and the prices that come of it.
use Rattle.std.proofs.Common.{◌≡◌, ℕ, suc, ◌+◌, ◌-◌, ◌*◌, ◌<◌, ◌≤◌, List, [], ◌∷◌, length, map, get_or, sym, ◌∙◌, ap, subst, arith}
use Rattle.std.specs.Prelude.{slice_index_or}
use Rattle.std.specs.List.{AllByRecursion}
use Rattle.std.proofs.lemmas.List.{get_or-map, length-map}
use Rattle.limits.specs.declared.TheConstants.{MOST_PRICE}
use Rattle.auction_rules.specs.Rounds.{demand, prices_after, raised_prices, sum_of}
use Rattle.auction_rules.specs.State.{asked}
use Rattle.auction_rules.proofs.LawfulBids.{each-weaker}
use Rattle.big_auction.specs.declared.values.Lots.{Lots}
use Rattle.big_auction.specs.declared.values.Figures.{Figures}
use Rattle.big_auction.specs.MadeAward.{made_terms}
use Rattle.big_auction.specs.Parts.{counts_of, figures_of, held_from}
use Rattle.big_auction.proofs.PriceBounds.{IsBetween, prices-small}

abbrev pub package_at : List Lots → ℕ → List ℕ
package_at xs j = slice_index_or (map counts_of xs) (j - 1) []

abbrev nothing : List ℕ
nothing = 0 ∷ 0 ∷ 0 ∷ 0 ∷ []

-- what the first i packages ask for together
pub record IsAskedBy (xs : List Lots) (i : ℕ) (all : Figures) : Type 0 where
  pub sum : figures_of all ≡ sum_of nothing (package_at xs) i
  pub few_a : all.a ≤ 65535 * i
  pub few_b : all.b ≤ 65535 * i
  pub few_c : all.c ≤ 65535 * i
  pub few_e : all.e ≤ 65535 * i

-- the package of number i + 1 is the one at place i
pub package-is : (xs : List Lots) (i : ℕ) (d : Lots) → i < length xs → package_at xs (suc i) ≡ counts_of (get_or xs i d)
package-is xs i d low = let e : suc i - 1 ≡ i = omega arith in ap (λ (j : ℕ). get_or (map counts_of xs) j []) e ∙ get_or-map counts_of xs i d [] low

-- ---- prices

-- raised by what the twelve packages ask for, the prices are those after one round more
pub prices-more : (xs : List Lots) (i : ℕ) (now next all : Figures) → length xs ≡ 12 → figures_of all ≡ asked made_terms (map counts_of xs)
    → figures_of now ≡ prices_after made_terms (held_from (map counts_of xs)) i
    → figures_of next ≡ raised_prices 1 ((1, 100) ∷ (5, 200) ∷ []) (figures_of now) (figures_of all) made_terms.supply
    → figures_of next ≡ prices_after made_terms (held_from (map counts_of xs)) (i + 1)
prices-more xs i now next all twelve asks is raised =
    let e : suc i ≡ i + 1 = omega arith in
    let long : length (map counts_of xs) ≡ 12 = length-map xs counts_of ∙ twelve in
    let sum : figures_of all ≡ demand made_terms (held_from (map counts_of xs)) (suc i) = asks ∙ ap (sum_of nothing (package_at xs)) long in
    raised
    ∙ ap (λ (p : List ℕ). raised_prices 1 ((1, 100) ∷ (5, 200) ∷ []) p (figures_of all) made_terms.supply) is
    ∙ ap (λ (d : List ℕ). raised_prices 1 ((1, 100) ∷ (5, 200) ∷ []) (prices_after made_terms (held_from (map counts_of xs)) i) d made_terms.supply) sum
    ∙ ap (prices_after made_terms (held_from (map counts_of xs))) e

-- no price is too great for a step
pub prices-low : (held : ℕ → ℕ → List ℕ) (i : ℕ) (p : Figures) → i ≤ 9 → figures_of p ≡ prices_after made_terms held i
    → AllByRecursion (λ p. p ≤ MOST_PRICE) (figures_of p)
prices-low held i p few is =
    subst (AllByRecursion (λ p. p ≤ MOST_PRICE)) (sym is)
    (each-weaker (IsBetween 768000) (λ p. p ≤ MOST_PRICE) (prices_after made_terms held i) (λ p between. omega (arith, between.top)) (prices-small held i few))
