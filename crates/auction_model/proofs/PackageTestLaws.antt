-- The tests of packages, by the words of auction_model, and the order of packages.
use Rattle.std.proofs.Common.{◌≡◌, ℕ, suc, ◌<◌, true, false, List, [], ◌∷◌, Some, None, length, refl, sym, subst, ◌∙◌, inl, inr, arith}
use Rattle.std.specs.Prelude.{nat_lt, nat_le, ◌==◌, ◌&&◌}
use Rattle.std.proofs.lemmas.Bool.{and_from, and_parts, cases_Bool, cases_order, eq-eqb, eqb-true, lt-ltb, ltb-true, ne_eqb, or_cases, or_left}
use Rattle.std.proofs.lemmas.Bool.{or_parts, or_right}
use Rattle.auction_model.specs.Package.{is_within, ComesBefore}
use Rattle.auction_model.specs.PackageTests.{first_over, is_same, is_before}

-- packages that the test takes for the same are equal
pub is_same-true : (p q : List ℕ) → is_same p q ≡ true → p ≡ q
is_same-true [] [] h = refl
is_same-true [] (b ∷ q) h = cc
is_same-true (a ∷ p) [] h = cc
is_same-true (a ∷ p) (b ∷ q) h =
    let both : ((a == b) ≡ true) × (is_same p q ≡ true) = and_parts (a == b) (is_same p q) h in
    rw (eqb-true a b both.0, is_same-true p q both.1) refl

-- a package is the same as itself
pub is_same-refl : (p : List ℕ) → is_same p p ≡ true
is_same-refl [] = refl
is_same-refl (a ∷ p) = and_from (a == a) (is_same p p) (eq-eqb a a refl) (is_same-refl p)

-- a package that is before another isn't the same as it
pub is_before-not_same : (p q : List ℕ) → is_before p q ≡ true → is_same p q ≡ false
is_before-not_same [] [] h = cc
is_before-not_same [] (b ∷ q) h = refl
is_before-not_same (a ∷ p) [] h = cc
is_before-not_same (a ∷ p) (b ∷ q) h =
    elim (or_cases (nat_lt a b) ((a == b) && is_before p q) h) [
      | inl less ↦ let lt : a < b = ltb-true a b less in rw (ne_eqb a b (λ e. absurd (omega arith))) refl
      | inr later ↦ let both : ((a == b) ≡ true) × (is_before p q ≡ true) = and_parts (a == b) (is_before p q) later in
          rw (both.0, is_before-not_same p q both.1) refl
    ]

-- a package before one that is before a third is before the third
pub is_before-trans : (p q r : List ℕ) → is_before p q ≡ true → is_before q r ≡ true → is_before p r ≡ true
is_before-trans [] [] r h k = cc
is_before-trans [] (b ∷ q) [] h k = cc
is_before-trans [] (b ∷ q) (c ∷ r) h k = refl
is_before-trans (a ∷ p) [] r h k = cc
is_before-trans (a ∷ p) (b ∷ q) [] h k = cc
is_before-trans (a ∷ p) (b ∷ q) (c ∷ r) h k =
    elim (or_cases (nat_lt a b) ((a == b) && is_before p q) h) [
      | inl less ↦ let lt : a < b = ltb-true a b less in
          elim (or_cases (nat_lt b c) ((b == c) && is_before q r) k) [
            | inl less' ↦ let lt' : b < c = ltb-true b c less' in or_left (nat_lt a c) ((a == c) && is_before p r) (lt-ltb a c (omega arith))
            | inr later ↦ let both : ((b == c) ≡ true) × (is_before q r ≡ true) = and_parts (b == c) (is_before q r) later in
                let same : b ≡ c = eqb-true b c both.0 in or_left (nat_lt a c) ((a == c) && is_before p r) (lt-ltb a c (omega arith))
          ]
      | inr later ↦ let both : ((a == b) ≡ true) × (is_before p q ≡ true) = and_parts (a == b) (is_before p q) later in
          let same : a ≡ b = eqb-true a b both.0 in
          elim (or_cases (nat_lt b c) ((b == c) && is_before q r) k) [
            | inl less' ↦ let lt' : b < c = ltb-true b c less' in or_left (nat_lt a c) ((a == c) && is_before p r) (lt-ltb a c (omega arith))
            | inr later' ↦ let both' : ((b == c) ≡ true) × (is_before q r ≡ true) = and_parts (b == c) (is_before q r) later' in
                let same' : b ≡ c = eqb-true b c both'.0 in
                or_right (nat_lt a c) ((a == c) && is_before p r) (and_from (a == c) (is_before p r) (eq-eqb a c (same ∙ same'))
                (is_before-trans p q r both.1 both'.1))
          ]
    ]

-- of two packages that aren't the same, if the first isn't before the second, the second is before the first
pub is_before-total : (p q : List ℕ) → is_same p q ≡ false → is_before p q ≡ false → is_before q p ≡ true
is_before-total [] [] h k = cc
is_before-total [] (b ∷ q) h k = cc
is_before-total (a ∷ p) [] h k = refl
is_before-total (a ∷ p) (b ∷ q) h k =
    let parts : (nat_lt a b ≡ false) × (((a == b) && is_before p q) ≡ false) = or_parts (nat_lt a b) ((a == b) && is_before p q) k in
    elim (cases_order a b) [
      | inl same ↦
          let same_test : (a == b) ≡ true = eq-eqb a b same in
          let h' : is_same p q ≡ false = rw same_test at h in
          let k' : is_before p q ≡ false = rw same_test at parts.1 in
          or_right (nat_lt b a) ((b == a) && is_before q p) (and_from (b == a) (is_before q p) (eq-eqb b a (sym same)) (is_before-total p q h' k'))
      | inr other ↦ elim other [
        | inl less ↦ let no : false ≡ true = sym parts.0 ∙ lt-ltb a b less in cc
        | inr more ↦ or_left (nat_lt b a) ((b == a) && is_before q p) (lt-ltb b a more)
      ]
    ]

-- among packages with equally many categories the test is the order of packages
pub is_before-comes : (p q : List ℕ) → length p ≡ length q → is_before p q ≡ true → ComesBefore p q
is_before-comes [] [] same h = cc
is_before-comes [] (b ∷ q) same h = absurd (omega arith)
is_before-comes (a ∷ p) [] same h = absurd (omega arith)
is_before-comes (a ∷ p) (b ∷ q) same h =
    elim (or_cases (nat_lt a b) ((a == b) && is_before p q) h) [
      | inl less ↦ inl (ltb-true a b less)
      | inr later ↦ let both : ((a == b) ≡ true) × (is_before p q ≡ true) = and_parts (a == b) (is_before p q) later in
          inr (eqb-true a b both.0, is_before-comes p q (omega arith) both.1)
    ]

-- a package that comes before another in the order of packages passes the test of order
pub comes-is_before : (p q : List ℕ) → ComesBefore p q → is_before p q ≡ true
comes-is_before [] q comes = absurd comes
comes-is_before (a ∷ p) [] comes = absurd comes
comes-is_before (a ∷ p) (b ∷ q) (inl less) = or_left (nat_lt a b) ((a == b) && is_before p q) (lt-ltb a b less)
comes-is_before (a ∷ p) (b ∷ q) (inr same) = or_right (nat_lt a b) ((a == b) && is_before p q)
    (and_from (a == b) (is_before p q) (eq-eqb a b same.0) (comes-is_before p q same.1))

-- no category is over exactly if the package is within the supply
pub within-first_over : (category : ℕ) (lots supply : List ℕ) → is_within lots supply ≡ true → first_over category lots supply ≡ None
within-first_over category [] supply h = refl
within-first_over category (a ∷ lots) [] h =
    let both : ((a == 0) ≡ true) × (is_within lots [] ≡ true) = and_parts (a == 0) (is_within lots []) h in
    rw both.0 (within-first_over (suc category) lots [] both.1)
within-first_over category (a ∷ lots) (b ∷ supply) h =
    let both : (nat_le a b ≡ true) × (is_within lots supply ≡ true) = and_parts (nat_le a b) (is_within lots supply) h in
    rw both.0 (within-first_over (suc category) lots supply both.1)

-- a package of which no category is over is within the supply
pub first_over-within : (category : ℕ) (lots supply : List ℕ) → first_over category lots supply ≡ None → is_within lots supply ≡ true
first_over-within category [] supply h = refl
first_over-within category (a ∷ lots) [] h =
    elim (cases_Bool (a == 0)) [
      | inl none ↦ let later : first_over (suc category) lots [] ≡ None = rw none at h in and_from (a == 0) (is_within lots []) none
          (first_over-within (suc category) lots [] later)
      | inr some ↦ let no : Some category ≡ None = rw some at h in cc
    ]
first_over-within category (a ∷ lots) (b ∷ supply) h =
    elim (cases_Bool (nat_le a b)) [
      | inl low ↦ let later : first_over (suc category) lots supply ≡ None = rw low at h in and_from (nat_le a b) (is_within lots supply) low
          (first_over-within (suc category) lots supply later)
      | inr over ↦ let no : Some category ≡ None = rw over at h in cc
    ]

-- if p isn't the same as q, q isn't the same as p
pub not_same-sym : (p q : List ℕ) → is_same p q ≡ false → is_same q p ≡ false
not_same-sym p q apart =
    elim (cases_Bool (is_same q p)) [
      | inl same ↦ let no : true ≡ false = sym (subst (λ (x : List ℕ). is_same x q ≡ true) (is_same-true q p same) (is_same-refl q)) ∙ apart in cc
      | inr other ↦ other
    ]
