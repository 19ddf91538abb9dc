-- Files that were made for some names know each of them.
use Rattle.std.specs.Prelude.{◌≡◌, ℕ, zero, suc, ◌<◌, List, map, length, get_or, nat_eq, true, [], ◌∷◌, refl}
use Rattle.std.proofs.Common.{◌∙◌, ap, arith, eq-eqb}
use Rattle.std.proofs.lemmas.Bool.{and_from, or_left, or_right}
use Rattle.std.proofs.lemmas.List.Folds.{list_any_at}
use Rattle.std.specs.List.{list_any}
use Rattle.std.specs.Str.{bytes_eq}

same : (xs : List ℕ) → bytes_eq xs xs ≡ true
same [] = refl
same (x ∷ xs) = and_from (nat_eq x x) (bytes_eq xs xs) (eq-eqb x x refl) (same xs)

-- a name that is the name of the one at a place is found
pub name-at : {X : Type 0} (name_of : X → List ℕ) (xs : List X) (k : ℕ) (x : X) (name : List ℕ) → k < length xs → name ≡ name_of (get_or xs k x)
    → list_any (λ y. bytes_eq (name_of y) name) xs ≡ true
name-at name_of xs k x name h is = list_any_at (λ y. bytes_eq (name_of y) name) xs k x h
    (ap (λ (n : List ℕ). bytes_eq (name_of (get_or xs k x)) n) is ∙ same (name_of (get_or xs k x)))

-- each of the names of the entries is found among them
pub each-known : {X : Type 0} (name_of : X → List ℕ) (xs : List X) (k : ℕ) (d : List ℕ) → k < length (map name_of xs)
    → list_any (λ y. bytes_eq (name_of y) (get_or (map name_of xs) k d)) xs ≡ true
each-known name_of [] k d h = absurd (omega (arith, h))
each-known name_of (x ∷ xs) zero d h = or_left (bytes_eq (name_of x) (name_of x)) (list_any (λ y. bytes_eq (name_of y) (name_of x)) xs) (same (name_of x))
each-known name_of (x ∷ xs) (suc k) d h =
    let name = get_or (map name_of xs) k d in
    or_right (bytes_eq (name_of x) name) (list_any (λ y. bytes_eq (name_of y) name) xs) (each-known name_of xs k d (omega (arith, h)))
