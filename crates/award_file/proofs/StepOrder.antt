-- The excess before a step is that of the last step.
use Rattle.std.proofs.Common.{◌≡◌, ℕ, ◌-◌, List, [], ◌∷◌, length, Some, ap, subst, arith, slice_get}
use Rattle.std.proofs.lemmas.Option.{same_Some}
use Rattle.std.specs.Prelude.{nat_lt}
use Rattle.auction_rules.specs.Step.{last_or}
use Rattle.award_file.specs.Parts.{excesses}
use Rattle.award_file.specs.Walk.{comes_next}

last-is : (x : ℕ × ℕ) (xs : List (ℕ × ℕ)) (y : ℕ × ℕ) → slice_get (x ∷ xs) (length xs) ≡ Some y → last_or x.0 (excesses xs) ≡ y.0
last-is x [] y h = ap (λ (p : ℕ × ℕ). p.0) (same_Some _ _ h)
last-is x (z ∷ zs) y h = last-is z zs y h

-- an excess comes next after some steps if it is above that of the last one
pub after-last : (xs : List (ℕ × ℕ)) (y : ℕ × ℕ) (excess : ℕ) → slice_get xs (length xs - 1) ≡ Some y
    → comes_next (excesses xs) (Some excess) ≡ nat_lt y.0 excess
after-last [] y excess h = absurd (cc h)
after-last (x ∷ xs) y excess h =
    let e : length (x ∷ xs) - 1 ≡ length xs = omega arith in
    ap (λ e. nat_lt e excess) (last-is x xs y (subst (λ k. slice_get (x ∷ xs) k ≡ Some y) e h))
