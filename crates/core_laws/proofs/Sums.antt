-- Sums over bidders and sums of choices, as sums over the numbers from 0.
use Rattle.std.specs.Prelude.{◌≡◌, ℕ, zero, suc, ◌+◌, ◌-◌, ◌<◌, Bool, cond, List, [], ◌∷◌, length, ℤ, pos, ◌+ℤ◌, ◌≤ℤ◌, ◌<ℤ◌, refl}
use Rattle.std.proofs.Common.{sym, ◌∙◌, ap, arith, inl, inr}
use Rattle.std.proofs.lemmas.Int.{ints}
use Rattle.std.proofs.lemmas.Bool.{cases_lt}
use Rattle.auction_model.specs.Market.{sum_after, number_of}
use Rattle.auction_model.specs.Prices.{sum_over}
use Rattle.wide_num.specs.Sums.{total}
use Rattle.wide_num.proofs.Sums.{total-first, total-same}
use Rattle.projection_laws.proofs.Sums.{total-le}

-- a sum over the bidders that pass is a total over the numbers from 0, if others count 0
pub over-is : (s : ℕ → Bool) (f : ℕ → ℤ) (n : ℕ) → sum_over s f n ≡ total n (λ k. cond (s (suc k)) (f (suc k)) (pos 0))
over-is s f zero = refl
over-is s f (suc n) = ap (λ (x : ℤ). x +ℤ cond (s (suc n)) (f (suc n)) (pos 0)) (over-is s f n)

-- what a choice counts, s bidders being passed, is the total of what each of its bidders counts
pub after-is : (counts : ℕ → ℕ → ℤ) (s : ℕ) (c : List ℕ) → sum_after counts s c ≡ total (length c) (λ k. counts (suc (s + k)) (number_of c (suc k)))
after-is counts s [] = refl
after-is counts s (i ∷ c) =
    let none : s + 0 ≡ s = omega arith in
    let one : counts (suc (s + 0)) i ≡ counts (suc s) i = ap (λ t. counts (suc t) i) none in
    let rest : total (length c) (λ k. counts (suc (suc s + k)) (number_of c (suc k))) ≡ total (length c)
    (λ k. counts (suc (s + suc k)) (number_of (i ∷ c) (suc (suc k)))) =
    total-same (length c) (λ k. counts (suc (suc s + k)) (number_of c (suc k))) (λ k. counts (suc (s + suc k)) (number_of (i ∷ c) (suc (suc k))))
    (λ k lt. let a : suc s + k ≡ s + suc k = omega arith in let b : suc (suc k) - 1 ≡ suc (suc k - 1) = omega arith in rw (a, b) refl) in
    let front = total-first (length c) (λ k. counts (suc (s + k)) (number_of (i ∷ c) (suc k))) in
    let h = after-is counts (suc s) c in
    ap (λ (x : ℤ). counts (suc s) i +ℤ x) (h ∙ rest) ∙ ap (λ (x : ℤ). x +ℤ total (length c) (λ k. counts (suc (s + suc k)) (number_of (i ∷ c) (suc (suc k)))))
    (sym one) ∙ sym front

-- what a choice counts from the first bidder on is the total of what each bidder counts
pub choice-is : (counts : ℕ → ℕ → ℤ) (c : List ℕ) → sum_after counts 0 c ≡ total (length c) (λ k. counts (suc k) (number_of c (suc k)))
choice-is counts c = after-is counts 0 c ∙ total-same (length c) (λ k. counts (suc (0 + k)) (number_of c (suc k))) (λ k. counts (suc k) (number_of c (suc k)))
    (λ k lt. let a : 0 + k ≡ k = omega arith in rw a refl)

-- a total is less than another if no term is greater and one is less
pub total-lt : (n : ℕ) (f g : ℕ → ℤ) → ((i : ℕ) → i < n → f i ≤ℤ g i) → (k : ℕ) → k < n → f k <ℤ g k → total n f <ℤ total n g
total-lt zero f g h k lt more = absurd (omega arith)
total-lt (suc n) f g h k lt more =
    let b : f n ≤ℤ g n = h n (omega arith) in
    elim (cases_lt k n) [
      | inl l ↦ (let a : total n f <ℤ total n g = total-lt n f g (λ i q. h i (omega arith)) k l more in omega (arith, ints))
      | inr past ↦ (let e : n ≡ k = omega arith in let a : total n f ≤ℤ total n g = total-le n f g (λ i q. h i (omega arith)) in let c : f n ≡ f k = ap f e in
          let d : g n ≡ g k = ap g e in omega (arith, ints))
    ]
