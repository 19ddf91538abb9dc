-- The greatest of the sums of two numbers, one for each of two places that make up the whole supply, place by place.
use Rattle.std.specs.Prelude.{◌≡◌, ℕ, ◌+◌, ◌-◌, ◌^◌, ◌≤◌, ◌<◌, List, get_or, ℤ, pos, ◌+ℤ◌, ◌≤ℤ◌, ◌<ℤ◌, unsigned_abs, refl}
use Rattle.std.specs.Int.{int_max}
use Rattle.std.proofs.Common.{arith, below_more, ap}
use Rattle.std.proofs.lemmas.Int.{ints, by_lt_z, int_max_is}
use Rattle.auction_model.proofs.LineLaws.{int_max-left}

-- the sum at a place
abbrev pub pair_at : ℕ → List ℤ → List ℤ → ℕ → ℤ
pair_at states before after s = get_or before s (pos 0) +ℤ get_or after (states - 1 - s) (pos 0)

-- the greatest of the sums of the first k places
pub record IsPairSoFar (states : ℕ) (before after : List ℤ) (k : ℕ) (most : ℤ) : Type 0 where
  pub reached : (s : ℕ) × (s < states) × (most ≡ pair_at states before after s)
  pub bound : (s : ℕ) → s < k → pair_at states before after s ≤ℤ most

-- the greater of two numbers is the second
max-right : (a b : ℤ) → a <ℤ b → int_max a b ≡ b
max-right a b h = omega (arith, ints, int_max_is a b)

-- the sum of two numbers of a table
pub sum-size : (a b : ℤ) → unsigned_abs a ≤ 2 ^ 120 → unsigned_abs b ≤ 2 ^ 120 → unsigned_abs (a +ℤ b) ≤ 2 ^ 121
sum-size a b h k = omega (arith, ints, h, k)

module _ (states : ℕ) (before after : List ℤ) where
  -- at first the sum at place 0
  pub pair-first : 0 < states → IsPairSoFar states before after 1 (get_or before 0 (pos 0) +ℤ get_or after (states - 1) (pos 0))
  pair-first some =
      let last : states - 1 ≡ states - 1 - 0 = omega arith in
      let own : get_or before 0 (pos 0) +ℤ get_or after (states - 1) (pos 0) ≡ pair_at states before after 0 =
      ap (λ n. get_or before 0 (pos 0) +ℤ get_or after n (pos 0)) last in
      record {
        reached = (0, some, own);
        bound = λ s h. let zeroth : s ≡ 0 = omega (arith, h) in rw zeroth (omega (arith, ints, own));
      }

  -- then the greater one at each place
  pub pair-next : (k : ℕ) (most : ℤ) → k < states → IsPairSoFar states before after k most → IsPairSoFar states before after (k + 1)
      (int_max most (pair_at states before after k))
  pair-next k most inside was =
      let sum = pair_at states before after k in
      by_lt_z most sum
      (λ lt. rw (max-right most sum lt) (record {
        reached = (k, inside, refl);
        bound = below_more (λ s. pair_at states before after s ≤ℤ sum) k (λ s h. omega (arith, ints, was.bound s h, lt)) (omega (arith, ints));
      }))
      (λ ge. rw (int_max-left most sum ge) (record {
        reached = was.reached;
        bound = below_more (λ s. pair_at states before after s ≤ℤ most) k was.bound (omega (arith, ints, ge));
      }))
