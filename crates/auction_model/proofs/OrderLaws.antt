-- The order of ties: of two choices of equally many numbers that differ, exactly one comes first.
use Rattle.std.specs.Prelude.{◌≡◌, ◌⊎◌, ℕ, zero, suc, ◌<◌, Bool, ◌&&◌, ◌||◌, nat_lt, ◌==◌, IsTrue, List, [], ◌∷◌, length, refl, ℤ, ◌≤ℤ◌, ◌<ℤ◌}
use Rattle.std.proofs.Common.{inl, inr, ap, arith}
use Rattle.std.proofs.lemmas.Bool.{false≢true, and_parts, and_from, or_cases, or_left, or_right, ltb-true, lt-ltb, eqb-true, eq-eqb, cases_order}
use Rattle.std.proofs.lemmas.Int.{ints}
use Rattle.auction_model.specs.Market.{is_number_before, is_earlier}
use Rattle.auction_model.specs.Greatest.{IsFirstGreatest}

-- a number is before a greater one, and every number but 0 is before 0
pub before-greater : (i j : ℕ) → i < j → IsTrue (is_number_before (suc i) (suc j))
before-greater i j h =
    and_from (nat_lt 0 (suc i)) ((suc j == 0) || nat_lt (suc i) (suc j)) (lt-ltb 0 (suc i) (omega arith))
    (or_right (suc j == 0) (nat_lt (suc i) (suc j)) (lt-ltb (suc i) (suc j) (omega arith)))

-- the number of any bid is before 0
pub before-none : (i : ℕ) → IsTrue (is_number_before (suc i) 0)
before-none i = and_from (nat_lt 0 (suc i)) ((0 == 0) || nat_lt (suc i) 0) (lt-ltb 0 (suc i) (omega arith))
    (or_left (0 == 0) (nat_lt (suc i) 0) (eq-eqb 0 0 refl))

-- what it says that one number is before another
pub before-says : (i j : ℕ) → IsTrue (is_number_before i j) → (0 < i) × ((j ≡ 0) ⊎ (i < j))
before-says i j t =
    let p = and_parts (nat_lt 0 i) ((j == 0) || nat_lt i j) t in (
      ltb-true 0 i p.0,
      elim (or_cases (j == 0) (nat_lt i j) p.1) [
        | inl none ↦ inl (eqb-true j 0 none)
        | inr low ↦ inr (ltb-true i j low)
      ],
    )

-- no number is before itself
pub before-self : (i : ℕ) → IsTrue (is_number_before i i) → ⊥
before-self i t = elim (before-says i i t).1 [ inl none ↦ omega (arith, none, (before-says i i t).0) | inr low ↦ omega (arith, low) ]

-- two numbers are never each before the other
pub before-not_both : (i j : ℕ) → IsTrue (is_number_before i j) → IsTrue (is_number_before j i) → ⊥
before-not_both i j t u =
    let p = before-says i j t in
    let q = before-says j i u in
    elim p.1 [
      | inl none ↦ omega (arith, none, q.0)
      | inr low ↦ elim q.1 [ inl none ↦ omega (arith, none, p.0) | inr high ↦ omega (arith, low, high) ]
    ]

-- two numbers are the same, or one of them is before the other
pub before-cases : (i j : ℕ) → (i ≡ j) ⊎ (IsTrue (is_number_before i j) ⊎ IsTrue (is_number_before j i))
before-cases zero zero = inl refl
before-cases zero (suc j) = inr (inr (before-none j))
before-cases (suc i) zero = inr (inl (before-none i))
before-cases (suc i) (suc j) =
    elim (cases_order i j) [
      | inl same ↦ inl (ap suc same)
      | inr (inl low) ↦ inr (inl (before-greater i j low))
      | inr (inr high) ↦ inr (inr (before-greater j i high))
    ]

-- an earlier choice begins with an earlier number, or with the same number before an earlier rest
pub earlier-says : (i j : ℕ) (c d : List ℕ) → IsTrue (is_earlier (i ∷ c) (j ∷ d)) → IsTrue (is_number_before i j) ⊎ ((i ≡ j) × IsTrue (is_earlier c d))
earlier-says i j c d t =
    elim (or_cases (is_number_before i j) ((i == j) && is_earlier c d) t) [
      | inl before ↦ inl before
      | inr same ↦ let p = and_parts (i == j) (is_earlier c d) same in inr (eqb-true i j p.0, p.1)
    ]

-- the choice that begins with the earlier number comes first
pub earlier-number : (i j : ℕ) (c d : List ℕ) → IsTrue (is_number_before i j) → IsTrue (is_earlier (i ∷ c) (j ∷ d))
earlier-number i j c d before = or_left (is_number_before i j) ((i == j) && is_earlier c d) before

-- of two choices with the same first number the one with the earlier rest comes first
pub earlier-rest : (i : ℕ) (c d : List ℕ) → IsTrue (is_earlier c d) → IsTrue (is_earlier (i ∷ c) (i ∷ d))
earlier-rest i c d rest = or_right (is_number_before i i) ((i == i) && is_earlier c d) (and_from (i == i) (is_earlier c d) (eq-eqb i i refl) rest)

-- two choices never each come before the other
pub earlier-not_both : (c d : List ℕ) → IsTrue (is_earlier c d) → IsTrue (is_earlier d c) → ⊥
earlier-not_both [] d t u = false≢true t
earlier-not_both (i ∷ c) [] t u = false≢true t
earlier-not_both (i ∷ c) (j ∷ d) t u =
    elim (earlier-says i j c d t) [
      | inl before ↦
          elim (earlier-says j i d c u) [
            | inl after ↦ before-not_both i j before after
            | inr same ↦ before-self i (rw same.0 at before)
          ]
      | inr same ↦
          elim (earlier-says j i d c u) [
            | inl after ↦ before-self j (rw same.0 at after)
            | inr rest ↦ earlier-not_both c d same.1 rest.1
          ]
    ]

-- two choices of equally many numbers are the same, or one of them comes first
pub earlier-cases : (c d : List ℕ) → length c ≡ length d → (c ≡ d) ⊎ (IsTrue (is_earlier c d) ⊎ IsTrue (is_earlier d c))
earlier-cases [] [] e = inl refl
earlier-cases [] (j ∷ d) e = absurd (omega (arith, e))
earlier-cases (i ∷ c) [] e = absurd (omega (arith, e))
earlier-cases (i ∷ c) (j ∷ d) e =
    elim (before-cases i j) [
      | inr (inl before) ↦ inr (inl (earlier-number i j c d before))
      | inr (inr after) ↦ inr (inr (earlier-number j i d c after))
      | inl same ↦ by same (earlier-cases c d (omega (arith, e)))
    ]
  where
    by : i ≡ j → (c ≡ d) ⊎ (IsTrue (is_earlier c d) ⊎ IsTrue (is_earlier d c)) → (i ∷ c ≡ j ∷ d)
        ⊎ (IsTrue (is_earlier (i ∷ c) (j ∷ d)) ⊎ IsTrue (is_earlier (j ∷ d) (i ∷ c)))
    by same (inl rest) = inl (cc (same, rest))
    by same (inr (inl rest)) = inr (inl (rw same (earlier-rest j c d rest)))
    by same (inr (inr rest)) = inr (inr (rw same (earlier-rest j d c rest)))

-- there is at most one first of the greatest
pub one-first : (passes : List ℕ → Bool) (value : List ℕ → ℤ) (c d : List ℕ) → length c ≡ length d → IsFirstGreatest passes value c
    → IsFirstGreatest passes value d → c ≡ d
one-first passes value c d e g h =
    elim (earlier-cases c d e) [
      | inl same ↦ same
      | inr (inl before) ↦ let low : value c <ℤ value d = h.first c g.passed before in let most : value d ≤ℤ value c = g.greatest d h.passed in
          absurd (omega (arith, ints, low, most))
      | inr (inr after) ↦ let low : value d <ℤ value c = g.first d h.passed after in let most : value c ≤ℤ value d = h.greatest c g.passed in
          absurd (omega (arith, ints, low, most))
    ]
