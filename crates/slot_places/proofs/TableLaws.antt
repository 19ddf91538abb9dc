-- The bests of all sets, and the table of their sums.
use Rattle.std.specs.Prelude.{◌≡◌, ℕ, zero, suc, ◌+◌, ◌-◌, ◌^◌, ◌<◌, List, [], ◌∷◌, length, map, get_or, ℤ, pos, ◌≤ℤ◌, refl}
use Rattle.std.proofs.Common.{sym, ◌∙◌, arith, subst}
use Rattle.std.proofs.lemmas.Int.{ints}
use Rattle.std.proofs.lemmas.List.{get_or-map, length-map}
use Rattle.auction_model.specs.Greatest.{IsFirstGreatest}
use Rattle.auction_model.specs.Market.{sum_after}
use Rattle.slot_places.specs.Board.{nobody, is_placed}
use Rattle.slot_places.specs.SetTable.{holds, sum_outside, IsSetEntry, IsSetTable}
use Rattle.slot_places.specs.Steps.{searched, counted, IsBestOf, AreBests}
use Rattle.slot_places.specs.declared.search.Search.{Search}
use Rattle.slot_places.specs.declared.bests.Best.{Best}
use Rattle.slot_places.proofs.SetBits.{power-positive, holds-nobody}
use Rattle.slot_places.proofs.SameLaws.{slots-ask, best-same, sum_outside-same}
use Rattle.slot_places.proofs.StepLaws.{sum-same}
use Rattle.slot_places.proofs.WholeLaws.{best-whole}
use Rattle.slot_places.proofs.NumberLaws.{idle-always}

-- the best of one set more, before those of the sets after it
pub bests-front : (l : Search) (n : ℕ) (bests : List Best) (best : Best) → 0 < n → AreBests l n bests → IsBestOf l (n - 1) best
    → AreBests l (n - 1) (best ∷ bests)
bests-front l n bests best some all own = record { count = omega (arith, some, all.count); each = each }
  where
    each : (x : ℕ) (other : Best) → x < length (best ∷ bests) → IsBestOf l (n - 1 + x) (get_or (best ∷ bests) x other)
    each zero other inside = let e : n - 1 + 0 ≡ n - 1 = omega arith in subst (λ m. IsBestOf l m best) (sym e) own
    each (suc x) other inside = let e : n - 1 + suc x ≡ n + x = omega (arith, some) in subst (λ m. IsBestOf l m (get_or bests x other)) (sym e)
        (all.each x other (omega (arith, inside)))

abbrev pub sum_of : Best → ℤ
sum_of best = best.sum

entry : (l : Search) (set : ℕ) (best : Best) → IsBestOf l set best → IsSetEntry (searched l) (counted l) (holds set) best.sum
entry l set best is = record {
  reached = (best.numbers.items, is.first.passed, sym is.sum);
  bound = λ d t. let most : sum_outside (holds set) (counted l) d ≤ℤ sum_outside (holds set) (counted l) best.numbers.items = is.first.greatest d t in let e =
      is.sum in omega (arith, ints, most, e);
}

-- of some bests one is at hand
some-best : (bests : List Best) → 0 < length bests → Best
some-best [] some = absurd (omega (arith, some))
some-best (best ∷ bests) some = best

-- the sums of the bests of all sets are the exact table
pub table-of : (l : Search) (bests : List Best) → AreBests l 0 bests → IsSetTable (searched l) (counted l) (map sum_of bests ∷ [])
table-of l bests all =
    let count = all.count in
    let p = power-positive (searched l).bidders in
    let some : 0 < length bests = omega (arith, count, p) in
    record {
      lines = refl;
      sets = length-map bests sum_of ∙ (let e : length bests ≡ 2 ^ (searched l).bidders = omega (arith, count) in e);
      exact = λ bits low.
          let other = some-best bests some in
          let inside : bits < length bests = omega (arith, low, count) in
          let same : get_or (map sum_of bests) bits (pos 0) ≡ sum_of (get_or bests bits other) = get_or-map sum_of bests bits other (pos 0) inside in
          let own : IsBestOf l bits (get_or bests bits other) = let e : 0 + bits ≡ bits = omega arith in
          subst (λ m. IsBestOf l m (get_or bests bits other)) e (all.each bits other inside) in
          subst (IsSetEntry (searched l) (counted l) (holds bits)) (sym same) (entry l bits (get_or bests bits other) own);
    }

-- the best after nobody is the first of the greatest placed choices
pub first-placed : (l : Search) (best : Best) → IsBestOf l 0 best → IsFirstGreatest (is_placed (searched l)) (sum_after (counted l) 0) best.numbers.items
first-placed l best is =
    best-whole (searched l) (idle-always l.slots.now l.skip) (counted l) best.numbers.items
    (best-same (searched l) (slots-ask l.slots.now l.skip) (counted l) (holds 0) nobody (λ i some. holds-nobody i) best.numbers.items is.first)

-- the sum of the best after nobody is what its whole choice counts
pub first-sum : (l : Search) (best : Best) → IsBestOf l 0 best → best.sum ≡ sum_after (counted l) 0 best.numbers.items
first-sum l best is =
    is.sum ∙ (sum_outside-same (counted l) (holds 0) nobody (λ i some. holds-nobody i) best.numbers.items
    ∙ sum-same (λ j i. counted l j i) (counted l) 0 best.numbers.items (λ j i some. refl))

-- there is a best, that of nobody
pub bests-some : (l : Search) (bests : List Best) → AreBests l 0 bests → 0 < length bests
bests-some l bests all = let count = all.count in let p = power-positive (searched l).bidders in omega (arith, count, p)

-- the first of the bests of all sets is the best after nobody
pub bests-first : (l : Search) (bests : List Best) (best : Best) → AreBests l 0 bests → best ≡ get_or bests 0 best → IsBestOf l 0 best
bests-first l bests best all is = subst (λ (b : Best). IsBestOf l 0 b) (sym is) (all.each 0 best (bests-some l bests all))
