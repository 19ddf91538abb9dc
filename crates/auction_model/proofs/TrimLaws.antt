-- A package without its last categories, of which it has nothing, is the same bid.
use Rattle.std.specs.Prelude.{◌≡◌, ℕ, zero, suc, ◌+◌, ◌-◌, ◌*◌, true, ◌&&◌, nat_le, ◌==◌, List, [], ◌∷◌, take, ℤ, refl}
use Rattle.std.proofs.Common.{sym, ap, arith}
use Rattle.std.proofs.lemmas.Bool.{le-leb}
use Rattle.auction_model.specs.Package.{is_within, less, IsNothingFrom}
use Rattle.auction_model.specs.Place.{states_of, place_of, left_at}
use Rattle.auction_model.specs.Steps.{raised}

-- a package of no lots is within every supply
pub nothing-within : (p l : List ℕ) → IsNothingFrom 0 p → is_within p l ≡ true
nothing-within [] l h = refl
nothing-within (a ∷ p) [] h = rw (h 0 (omega arith)) (nothing-within p [] (λ k low. h (suc k) (omega arith)))
nothing-within (a ∷ p) (b ∷ l) h = rw (le-leb a b (omega (arith, h 0 (omega arith)))) (nothing-within p l (λ k low. h (suc k) (omega arith)))

nothing-less : (p l : List ℕ) → IsNothingFrom 0 p → less l p ≡ l
nothing-less p [] h = refl
nothing-less [] (b ∷ l) h = refl
nothing-less (a ∷ p) (b ∷ l) h =
    let same : b - a ≡ b = omega (arith, h 0 (omega arith)) in
    rw (same, nothing-less p l (λ k low. h (suc k) (omega arith))) refl

-- a package cut where it has nothing more is within the same supplies
pub trim-within : (n : ℕ) (p l : List ℕ) → IsNothingFrom n p → is_within (take n p) l ≡ is_within p l
trim-within zero p l h = sym (nothing-within p l h)
trim-within (suc n) [] l h = refl
trim-within (suc n) (a ∷ p) [] h = ap (λ t. (a == 0) && t) (trim-within n p [] (λ k low. h (suc k) (omega arith)))
trim-within (suc n) (a ∷ p) (b ∷ l) h = ap (λ t. nat_le a b && t) (trim-within n p l (λ k low. h (suc k) (omega arith)))

trim-less : (n : ℕ) (p l : List ℕ) → IsNothingFrom n p → less l (take n p) ≡ less l p
trim-less n p [] h = refl
trim-less zero p (b ∷ l) h = sym (nothing-less p (b ∷ l) h)
trim-less (suc n) [] (b ∷ l) h = refl
trim-less (suc n) (a ∷ p) (b ∷ l) h = ap (λ r. (b - a) ∷ r) (trim-less n p l (λ k low. h (suc k) (omega arith)))

-- an entry is raised alike by a bid and by the bid without its empty end
pub raised-trim : (n : ℕ) (supply p : List ℕ) (below : List ℤ) (worth : ℤ) (s : ℕ) (old : ℤ) → IsNothingFrom n p
    → raised supply below (take n p) worth s old ≡ raised supply below p worth s old
raised-trim n supply p below worth s old h = rw (trim-within n p (left_at supply s) h, trim-less n p (left_at supply s) h) refl

-- a package of nothing has the first place
nothing-place : (supply p : List ℕ) → IsNothingFrom 0 p → place_of supply p ≡ 0
nothing-place [] p h = refl
nothing-place (b ∷ supply) [] h = refl
nothing-place (b ∷ supply) (a ∷ p) h = rw (h 0 (omega arith), nothing-place supply p (λ k low. h (suc k) (omega arith))) (omega arith)

-- a package without its empty end has the same place
pub trim-place : (n : ℕ) (supply p : List ℕ) → IsNothingFrom n p → place_of supply (take n p) ≡ place_of supply p
trim-place n [] p h = refl
trim-place zero (b ∷ supply) p h = sym (nothing-place (b ∷ supply) p h)
trim-place (suc n) (b ∷ supply) [] h = refl
trim-place (suc n) (b ∷ supply) (a ∷ p) h = ap (λ m. a * states_of supply + m) (trim-place n supply p (λ k low. h (suc k) (omega arith)))
