-- Lines of a grid in either size.
use Rattle.std.proofs.Common.{◌≡◌, ◌∙◌, ℕ, ℤ, pos, List, map, take, drop, sym, ap}
use Rattle.std.proofs.lemmas.List.{drop-map, take-map}

-- a part of a line of 32 bits is that part of the whole numbers
pub part-short : (n from : ℕ) (numbers : List ℕ) → map (λ x. pos x) (take n (drop from numbers)) ≡ take n (drop from (map (λ x. pos x) numbers))
part-short n from numbers =
    sym (take-map (λ x. pos x) n (drop from numbers)) ∙ ap (λ (l : List ℤ). take n l) (sym (drop-map (λ x. pos x) from numbers))
