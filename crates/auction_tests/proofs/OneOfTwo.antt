-- The market of the tests is a market, its first bid wins, and which choice has the greatest lowered sum.
use Rattle.std.specs.Prelude.{Bool, IsFalse, IsTrue, List, [], cond, false, get_or, length, nat_le, not, pos, refl, slice_set, suc, true, zero, ℕ, ℤ}
use Rattle.std.specs.Prelude.{◌*ℤ◌, ◌+◌, ◌-ℤ◌, ◌-◌, ◌<ℤ◌, ◌<◌, ◌==◌, ◌∷◌, ◌≡◌, ◌≤ℤ◌, ◌≤◌}
use Rattle.std.proofs.Common.{arith, sym}
use Rattle.std.proofs.lemmas.Int.{ints, clamps}
use Rattle.std.proofs.lemmas.Bool.{false≢true, leb-true, le-leb}
use Rattle.auction_model.specs.Market.{number_of, sum_after}
use Rattle.auction_model.specs.Greatest.{IsFirstGreatest, IsWinning}
use Rattle.auction_model.specs.Lawful.{IsMarket}
use Rattle.auction_model.specs.Lowered.{lowered, of_bidder}
use Rattle.core_laws.specs.Surplus.{surpluses_of}
use Rattle.blocking.specs.Look.{CanLook}
use Rattle.auction_tests.specs.OneOfTwo.{at_most_one, worth_of, one_of_two, first_wins}

-- there are three choices
three : (P : List ℕ → Type 0) → P (1 ∷ 0 ∷ []) → P (0 ∷ 1 ∷ []) → P (0 ∷ 0 ∷ []) → (c : List ℕ) → IsTrue (at_most_one c) → P c
three P x y w [] t = absurd (false≢true t)
three P x y w (a ∷ []) t = absurd (false≢true t)
three P x y w (zero ∷ zero ∷ []) t = w
three P x y w (zero ∷ suc zero ∷ []) t = y
three P x y w (zero ∷ suc (suc b) ∷ []) t = absurd (omega (arith, leb-true (zero + suc (suc b)) 1 t))
three P x y w (suc zero ∷ zero ∷ []) t = x
three P x y w (suc zero ∷ suc b ∷ []) t = absurd (omega (arith, leb-true (suc zero + suc b) 1 t))
three P x y w (suc (suc a) ∷ b ∷ []) t = absurd (omega (arith, leb-true (suc (suc a) + b) 1 t))
three P x y w (a ∷ b ∷ e ∷ c) t = absurd (false≢true t)

-- the market of the tests is a lawful one
pub lawful : IsMarket one_of_two
lawful = record {
  few = omega arith;
  lengths = three (λ c. length c ≡ 2) refl refl refl;
  numbers = λ c j t some inside. three (λ c. number_of c j ≤ 1) (low 1 0 (j - 1) (omega arith) (omega arith)) (low 0 1 (j - 1) (omega arith) (omega arith))
      (low 0 0 (j - 1) (omega arith) (omega arith)) c t;
  empty = refl;
  fewer = λ c j t. three (λ c. IsTrue (at_most_one (slice_set c (j - 1) 0))) (left 1 0 (j - 1) refl) (left 0 1 (j - 1) refl) (left 0 0 (j - 1) refl) c t;
  none = λ j. refl;
  not_negative = λ c j t some inside. least j (number_of c j);
}
  where
    low : (a b k : ℕ) → a ≤ 1 → b ≤ 1 → get_or (a ∷ b ∷ []) k 0 ≤ 1
    low a b zero p q = p
    low a b (suc zero) p q = q
    low a b (suc (suc k)) p q = omega arith

    left : (a b k : ℕ) → IsTrue (nat_le (a + b) 1) → IsTrue (at_most_one (slice_set (a ∷ b ∷ []) k 0))
    left a b zero t = le-leb (0 + b) 1 (omega (arith, leb-true (a + b) 1 t))
    left a b (suc zero) t = le-leb (a + 0) 1 (omega (arith, leb-true (a + b) 1 t))
    left a b (suc (suc k)) t = t

    least : (j i : ℕ) → pos 0 ≤ℤ worth_of j i
    least j zero = omega (arith, ints)
    least j (suc i) = by (j == 1)
      where
        by : (b : Bool) → pos 0 ≤ℤ cond b (pos 5) (pos 3)
        by true = omega (arith, ints)
        by false = omega (arith, ints)

-- its winning choice gives the first bidder its bid
pub winning : IsWinning one_of_two first_wins
winning = record {
  passed = refl;
  greatest = three _ (omega (arith, ints)) (omega (arith, ints)) (omega (arith, ints));
  first = three _ (λ e. absurd (false≢true e)) (λ e. absurd (false≢true e)) (λ e. absurd (false≢true e));
}

module _ (den : ℤ) (surplus : List ℤ) (positive : pos 1 ≤ℤ den) (loser : of_bidder surplus 2 ≡ pos 0) where
  -- a small surplus leaves the winner in place
  pub stays : of_bidder surplus 1 ≤ℤ (den *ℤ pos 2) → IsFirstGreatest at_most_one (sum_after (lowered den worth_of surplus) 0) (1 ∷ 0 ∷ [])
  stays small = record {
    passed = refl;
    greatest = three _ (omega (arith, ints)) (omega (arith, ints, clamps)) (omega (arith, ints, clamps));
    first = three _ (λ e. absurd (false≢true e)) (λ e. absurd (false≢true e)) (λ e. absurd (false≢true e));
  }

  -- a greater one lets the loser win
  pub yields : (den *ℤ pos 2) <ℤ of_bidder surplus 1 → IsFirstGreatest at_most_one (sum_after (lowered den worth_of surplus) 0) (0 ∷ 1 ∷ [])
  yields great = record {
    passed = refl;
    greatest = three _ (omega (arith, ints, clamps)) (omega (arith, ints)) (omega (arith, ints, clamps));
    first = three _ (λ e. omega (arith, ints, clamps)) (λ e. absurd (false≢true e)) (λ e. absurd (false≢true e));
  }

  -- the lowered sum of the winning choice is den times 5, less the surplus of the first
  pub sum-stays : sum_after (lowered den worth_of surplus) 0 (1 ∷ 0 ∷ []) ≡ den *ℤ pos 5 -ℤ of_bidder surplus 1
  sum-stays = omega (arith, ints, clamps)

  -- the lowered sum of the choice in which the loser wins is den times 3
  pub sum-yields : (den *ℤ pos 2) <ℤ of_bidder surplus 1 → sum_after (lowered den worth_of surplus) 0 (0 ∷ 1 ∷ []) ≡ den *ℤ pos 3
  sum-yields great = omega (arith, ints, clamps)
