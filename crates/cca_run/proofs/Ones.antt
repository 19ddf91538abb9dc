-- Weights of 1, and counts of winners that are few or many.
use Rattle.std.specs.Prelude.{◌≡◌, ◌⊎◌, ◌<◌, ◌≤◌, List, length, ℕ}
use Rattle.std.proofs.Common.{inl, inr, arith}
use Rattle.auction_model.specs.Book.{Book}
use Rattle.cert_soundness.specs.Tests.{bidders_of}
use Rattle.core_laws.specs.Weights.{FewWin, ManyWin, WeighAlike}
use Rattle.core_laws.specs.Winners.{winners_in}
use Rattle.book_price.proofs.Ones.{winners-ones}
use Rattle.cca_commands.specs.Gives.{ones}

-- few enough and too many don't win both
pub not_few_and_many : (z weights : List ℕ) → FewWin z weights → ManyWin z weights → ⊥
not_few_and_many z weights few (inl six) = let f = few.0 in absurd (omega (arith, f, six))
not_few_and_many z weights few (inr more) = by few.1
  where
    by : WeighAlike z weights ⊎ (winners_in z ≤ 4) → ⊥
    by (inl alike) = more.1 alike
    by (inr four) = let m = more.0 in absurd (omega (arith, four, m))

alike-ones : (book : Book) (z : List ℕ) → length z ≡ bidders_of book → WeighAlike z (ones book)
alike-ones book z long = winners-ones z (bidders_of book) (omega (arith, long))

-- if at most six bidders win, few enough do with weights of 1
pub six-few : (book : Book) (z : List ℕ) → length z ≡ bidders_of book → winners_in z ≤ 6 → FewWin z (ones book)
six-few book z long six = (six, inl (alike-ones book z long))

-- if too many bidders win with weights of 1, more than six do
pub many-six : (book : Book) (z : List ℕ) → length z ≡ bidders_of book → ManyWin z (ones book) → 6 < winners_in z
many-six book z long (inl more) = more
many-six book z long (inr more) = absurd (more.1 (alike-ones book z long))
