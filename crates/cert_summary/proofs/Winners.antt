-- The winners of a choice in order: each is one of its bidders, and is used.
use Rattle.std.proofs.Common.{◌≡◌, ◌≢◌, ℕ, zero, suc, ◌+◌, ◌-◌, ◌<◌, ◌≤◌, not, IsTrue, List, [], ◌∷◌, length, get_or, map, sym, ap, subst, ◌∙◌, arith}
use Rattle.std.proofs.lemmas.Bool.{ne_eqb}
use Rattle.std.specs.List.{AllByRecursion}
use Rattle.auction_model.specs.Market.{uses}
use Rattle.choices.specs.Singles.{winners_after}

-- what holds of each bidder after the first k that has a number other than 0
pub each-after : (T : ℕ → Type 0) (k : ℕ) (z : List ℕ) → ((i : ℕ) → i < length z → get_or z i 0 ≢ 0 → T (suc k + i)) → AllByRecursion T (winners_after k z)
each-after T k [] h = tt
each-after T k (zero ∷ z) h = each-after T (suc k) z (λ i lt some. subst T (omega arith) (h (suc i) (omega arith) some))
each-after T k (suc n ∷ z) h = (
  subst T (omega arith) (h 0 (omega arith) (λ e. absurd (omega (arith, e)))),
  each-after T (suc k) z (λ i lt some. subst T (omega arith) (h (suc i) (omega arith) some)),
)

-- a bidder that the choice uses
abbrev pub Wins : List ℕ → ℕ → Type 0
Wins z j = (0 < j) × (j ≤ length z) × IsTrue (uses z j)

-- the choice uses each of its winners
pub all-win : (z : List ℕ) → AllByRecursion (Wins z) (winners_after 0 z)
all-win z = each-after (Wins z) 0 z (λ i lt some.
    let same : suc 0 + i - 1 ≡ i = omega arith in
    (omega arith, omega (arith, lt), ap not (ne_eqb (get_or z (suc 0 + i - 1) 0) 0 (λ e. some (ap (λ (k : ℕ). get_or z k 0) (sym same) ∙ e)))))

-- what holds of the images
pub each-of_map : {A B : Type 0} (T : B → Type 0) (f : A → B) (xs : List A) → AllByRecursion T (map f xs) → AllByRecursion (λ x. T (f x)) xs
each-of_map T f [] all = tt
each-of_map T f (x ∷ xs) all = (all.0, each-of_map T f xs all.1)
