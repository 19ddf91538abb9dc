-- What follows of each threshold.
use Rattle.std.proofs.Common.{ℕ, ◌≤◌, List, [], ◌∷◌}
use Rattle.std.specs.List.{All, AllByRecursion}
use Rattle.std.proofs.lemmas.List.Elements.{All-from_recursion}
use Rattle.award_file.specs.Award.{RiseAbove, AreThresholds}

rise-most : (low : ℕ) (ts : List (ℕ × ℕ)) → RiseAbove low ts → AllByRecursion (λ t. t.1 ≤ 1000) ts
rise-most low [] rise = tt
rise-most low (t ∷ ts) rise = (rise.3, rise-most t.0 ts rise.4)

thresholds-recursion : (ts : List (ℕ × ℕ)) → AreThresholds ts → AllByRecursion (λ t. t.1 ≤ 1000) ts
thresholds-recursion [] are = absurd are
thresholds-recursion (t ∷ ts) are = rise-most 0 (t ∷ ts) are.1

-- no permille is above 1,000
pub thresholds-most : (ts : List (ℕ × ℕ)) → AreThresholds ts → All (λ t. t.1 ≤ 1000) ts
thresholds-most ts are = All-from_recursion (λ t. t.1 ≤ 1000) ts (thresholds-recursion ts are)
