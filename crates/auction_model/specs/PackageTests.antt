-- Tests of packages. The laws of PackageLaws tie them to the definitions of auction_model.
use Rattle.std.specs.Prelude.{◌≡◌, ℕ, suc, Bool, true, false, ◌&&◌, ◌||◌, nat_le, nat_lt, ◌==◌, List, [], ◌∷◌, Option, Some, None, if◌then◌else◌}
use Rattle.auction_model.specs.Package.{is_within}

-- no lot at all
abbrev pub is_empty : List ℕ → Bool
is_empty lots = is_within lots []

-- the first category whose count is above the supply's, where the first of these counts is the given category's
abbrev pub first_over : ℕ → List ℕ → List ℕ → Option ℕ
first_over category [] supply = None
first_over category (a ∷ lots) [] = if a == 0 then first_over (suc category) lots [] else Some category
first_over category (a ∷ lots) (b ∷ supply) = if nat_le a b then first_over (suc category) lots supply else Some category

-- the same counts
abbrev pub is_same : List ℕ → List ℕ → Bool
is_same [] [] = true
is_same [] (b ∷ q) = false
is_same (a ∷ p) [] = false
is_same (a ∷ p) (b ∷ q) = (a == b) && is_same p q

-- p comes before q in the order of packages: at the first category where they differ its count is smaller. A prefix of a list
-- comes before the list
abbrev pub is_before : List ℕ → List ℕ → Bool
is_before [] [] = false
is_before [] (b ∷ q) = true
is_before (a ∷ p) [] = false
is_before (a ∷ p) (b ∷ q) = nat_lt a b || ((a == b) && is_before p q)

-- each of the packages comes after p
abbrev pub AllAfter : List ℕ → List (List ℕ) → Type 0
AllAfter p [] = Unit {0}
AllAfter p (q ∷ rest) = (is_before p q ≡ true) × AllAfter p rest

-- the packages are in order, each once
abbrev pub InOrder : List (List ℕ) → Type 0
InOrder [] = Unit {0}
InOrder (p ∷ rest) = AllAfter p rest × InOrder rest
