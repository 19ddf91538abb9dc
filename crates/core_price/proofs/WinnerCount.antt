-- The winners of a choice, counted one by one.
use Rattle.std.specs.Prelude.{◌≡◌, ◌≢◌, ℕ, zero, suc, ◌+◌, ◌≤◌, ◌<◌, List, [], ◌∷◌, length, drop, get_or, refl}
use Rattle.std.proofs.Common.{arith, add-one, drop-cons}
use Rattle.core_laws.specs.Winners.{winners_in}

one : (i : ℕ) (c : List ℕ) → i ≢ 0 → winners_in (i ∷ c) ≡ suc (winners_in c)
one zero c some = absurd (some refl)
one (suc i) c some = refl

-- a loser isn't counted
pub count-loser : (z : List ℕ) (k count : ℕ) → k < length z → get_or z k 0 ≡ 0 → count + winners_in (drop k z) ≡ winners_in z
    → count + winners_in (drop (k + 1) z) ≡ winners_in z
count-loser z k count h none was =
    let e : winners_in (drop k z) ≡ winners_in (drop (k + 1) z) = rw (add-one, drop-cons z k 0, none) refl in
    omega (arith, e, was)

-- a winner is counted once
pub count-winner : (z : List ℕ) (k count : ℕ) → k < length z → get_or z k 0 ≢ 0 → count + winners_in (drop k z) ≡ winners_in z
    → count + 1 + winners_in (drop (k + 1) z) ≡ winners_in z
count-winner z k count h some was =
    let e : winners_in (drop k z) ≡ suc (winners_in (drop (k + 1) z)) = rw (add-one, drop-cons z k 0) (one (get_or z k 0) (drop (suc k) z) some) in
    omega (arith, e, was)

-- past the last bidder, the count is that of all winners
pub counted-all : (z : List ℕ) (k count : ℕ) → length z ≤ k → count + winners_in (drop k z) ≡ winners_in z → count ≡ winners_in z
counted-all z k count h was = let e = none z k h in omega (arith, e, was)
  where
    none : (z : List ℕ) (k : ℕ) → length z ≤ k → winners_in (drop k z) ≡ 0
    none [] zero h = refl
    none [] (suc k) h = refl
    none (i ∷ z) zero h = absurd (omega (arith, h))
    none (i ∷ z) (suc k) h = none z k (omega (arith, h))
