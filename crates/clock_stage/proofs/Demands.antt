-- Sums of packages, and packages without a lot.
use Rattle.std.proofs.Common.{List, [], add-one, ap, arith, drop, get_or, length, map, refl, suc, sym, take, zero, ℕ, ◌*◌, ◌++◌, ◌+◌, ◌-◌}
use Rattle.std.proofs.Common.{◌<◌, ◌∙◌, ◌∷◌, ◌≡◌, ◌≤◌}
use Rattle.std.specs.Prelude.{sum, replicate}
use Rattle.std.specs.List.{All, AllByRecursion}
use Rattle.std.proofs.lemmas.List.{replicate_more, take-append-le, take_all, get_or_default}
use Rattle.std.proofs.lemmas.List.Sums.{sum_by-cons}
use Rattle.std.proofs.lemmas.List.Elements.{All-from_recursion, recursion_from_All}
use Rattle.auction_model.specs.Package.{together}
use Rattle.auction_rules.specs.Rounds.{listing, sum_of}

-- two packages of as many categories have as many together
pub length-together : (p q : List ℕ) → length q ≡ length p → length (together p q) ≡ length p
length-together [] [] e = refl
length-together [] (b ∷ q) e = e
length-together (a ∷ p) [] e = refl
length-together (a ∷ p) (b ∷ q) e = ap suc (length-together p q (omega arith))

-- no count of a package is above its lots
counts-low : (p : List ℕ) (most : ℕ) → sum p ≤ most → AllByRecursion (λ n. n ≤ most) p
counts-low [] most few = tt
counts-low (a ∷ p) most few =
    let parts : sum (a ∷ p) ≡ a + sum p = sum_by-cons (λ (n : ℕ). n) a p in
    (omega arith, counts-low p most (omega arith))

sums-low : (p q : List ℕ) (a b : ℕ) → length q ≡ length p → AllByRecursion (λ n. n ≤ a) p → AllByRecursion (λ n. n ≤ b) q
    → AllByRecursion (λ n. n ≤ a + b) (together p q)
sums-low [] [] a b e low few = tt
sums-low [] (y ∷ q) a b e low few = absurd (omega arith)
sums-low (x ∷ p) [] a b e low few = absurd (omega arith)
sums-low (x ∷ p) (y ∷ q) a b e low few = (omega (arith, low.0, few.0), sums-low p q a b (omega arith) low.1 few.1)

-- a package of at most 40 lots more
pub added-most : (demand p : List ℕ) (k : ℕ) → length p ≡ length demand → sum p ≤ 40 → All (λ n. n ≤ 40 * k) demand
    → All (λ n. n ≤ 40 * (k + 1)) (together demand p)
added-most demand p k e few low =
    let more : 40 * k + 40 ≡ 40 * (k + 1) = omega arith in
    All-from_recursion (λ n. n ≤ 40 * (k + 1)) (together demand p)
    (rw more at (sums-low demand p (40 * k) 40 e (recursion_from_All (λ n. n ≤ 40 * k) demand low) (counts-low p 40 few)))

-- a package without a lot has 0 lots in sum
pub zeros-sum : (supply : List ℕ) → sum (map {A = ℕ} {B = ℕ} (λ n. 0) supply) ≡ 0
zeros-sum [] = refl
zeros-sum (s ∷ supply) =
    let parts : sum (0 ∷ map {A = ℕ} {B = ℕ} (λ n. 0) supply) ≡ 0 + sum (map {A = ℕ} {B = ℕ} (λ n. 0) supply) =
    sum_by-cons (λ (n : ℕ). n) 0 (map {A = ℕ} {B = ℕ} (λ n. 0) supply) in
    omega (arith, parts, zeros-sum supply)

-- a package without a lot is as many zeros as there are categories
pub zeros-replicate : (supply : List ℕ) → map {A = ℕ} {B = ℕ} (λ n. 0) supply ≡ replicate (length supply) 0
zeros-replicate [] = refl
zeros-replicate (s ∷ supply) = ap (λ (p : List ℕ). 0 ∷ p) (zeros-replicate supply)

-- a list whose elements all become one value is that value as many times
pub map-same : {A B : Type 0} (y : B) (xs : List A) → map (λ x. y) xs ≡ replicate (length xs) y
map-same y [] = refl
map-same y (x ∷ xs) = ap (λ t. y ∷ t) (map-same y xs)

-- a listing of one value for each number is that value as many times
pub listing-same_each : {A : Type 0} (y : A) (n : ℕ) → listing (λ j. y) n ≡ replicate n y
listing-same_each y zero = refl
listing-same_each y (suc n) = ap (λ t. t ++ y ∷ []) (listing-same_each y n) ∙ replicate_more n y ∙ (rw add-one refl)

-- what a write of the whole list leaves
pub written : (len : ℕ) (new old : List ℕ) → len ≡ length old → length new ≡ length old → take len (new ++ drop (length new) old) ≡ new
written len new old l n = take-append-le len new (drop (length new) old) (omega arith) ∙ take_all len new (omega arith)

-- the sum of one package more
pub sum_more : (none : List ℕ) (held : List (List ℕ)) (k : ℕ) (p : List ℕ) → k < length held → p ≡ get_or held k p
    → sum_of none (λ j. get_or held (j - 1) []) (k + 1) ≡ together (sum_of none (λ j. get_or held (j - 1) []) k) p
sum_more none held k p inside is =
    let back : suc k - 1 ≡ k = omega arith in
    let own : get_or held (suc k - 1) [] ≡ p = rw back (get_or_default held k [] p inside ∙ sym is) in
    rw add-one (ap (together (sum_of none (λ j. get_or held (j - 1) []) k)) own)

-- one more of the same
pub replicate-push : {A : Type 0} (xs ys : List A) (x y : A) (n : ℕ) → ys ≡ xs ++ x ∷ [] → xs ≡ replicate n y → x ≡ y → ys ≡ replicate (n + 1) y
replicate-push xs ys x y n pushed so_far same = pushed ∙ ap (λ z. xs ++ z ∷ []) same ∙ ap (λ zs. zs ++ y ∷ []) so_far ∙ replicate_more n y
