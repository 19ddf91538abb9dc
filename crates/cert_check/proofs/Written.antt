-- Numbers that are written bidder by bidder.
use Rattle.std.specs.Prelude.{◌≡◌, ℕ, ◌+◌, ◌-◌, ◌<◌, ◌≤◌, List, get_or, length, ℤ, pos, ◌+ℤ◌}
use Rattle.std.proofs.Common.{◌≢◌, ◌∙◌, ap, subst, arith, set, get_or-set_other, get_or-set_same, below_more}
use Rattle.auction_model.specs.Lowered.{of_bidder}

-- the numbers of the first n bidders are those of f
abbrev pub AreWritten : (ℕ → ℤ) → List ℤ → ℕ → Type 0
AreWritten f numbers n = (k : ℕ) → k < n → get_or numbers k (pos 0) ≡ f (k + 1)

-- one number more
pub written-more : (f : ℕ → ℤ) (numbers : List ℤ) (n : ℕ) (number : ℤ) → n < length numbers → AreWritten f numbers n → number ≡ f (n + 1)
    → AreWritten f (set numbers n number) (n + 1)
written-more f numbers n number inside done is = below_more (λ k. get_or (set numbers n number) k (pos 0) ≡ f (k + 1)) n
    (λ k h. let other : k ≢ n = omega arith in rw get_or-set_other (done k h))
    (rw get_or-set_same is)

-- the number of each bidder is that of f
pub written-all : (f : ℕ → ℤ) (numbers : List ℤ) (n bidders : ℕ) → bidders ≤ n → AreWritten f numbers n → (j : ℕ) → 0 < j → j ≤ bidders
    → of_bidder numbers j ≡ f j
written-all f numbers n bidders all done j some inside =
    let back : j - 1 + 1 ≡ j = omega arith in
    subst (λ (x : ℕ). get_or numbers (j - 1) (pos 0) ≡ f x) back (done (j - 1) (omega (arith, all, inside)))

-- to the first n numbers something was added, and the others stay
pub record AreAdded (add : ℕ → ℤ) (before numbers : List ℤ) (n : ℕ) : Type 0 where
  -- the first n have what was added
  pub done : (q : ℕ) → q < n → get_or numbers q (pos 0) ≡ get_or before q (pos 0) +ℤ add (q + 1)
  -- those after are as before
  pub rest : (q : ℕ) → n ≤ q → get_or numbers q (pos 0) ≡ get_or before q (pos 0)

-- one number more has what is added
pub added-more : (add : ℕ → ℤ) (before numbers : List ℤ) (n : ℕ) (number : ℤ) → n < length numbers → AreAdded add before numbers n
    → number ≡ get_or numbers n (pos 0) +ℤ add (n + 1) → AreAdded add before (set numbers n number) (n + 1)
added-more add before numbers n number inside to is = record {
  done = below_more (λ q. get_or (set numbers n number) q (pos 0) ≡ get_or before q (pos 0) +ℤ add (q + 1)) n
      (λ q h. let other : q ≢ n = omega arith in rw get_or-set_other (to.done q h))
      (rw get_or-set_same (is ∙ ap (λ (z : ℤ). z +ℤ add (n + 1)) (to.rest n (omega arith))));
  rest = λ q past. (let other : q ≢ n = omega arith in rw get_or-set_other (to.rest q (omega (arith, past))));
}
