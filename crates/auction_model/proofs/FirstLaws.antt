-- Of finitely many choices one is the first of the greatest, unless there is none.
use Rattle.std.specs.Prelude.{◌≡◌, ◌⊎◌, ℕ, zero, suc, ◌≤◌, ◌<◌, Bool, true, false, ◌&&◌, ◌||◌, ◌==◌, IsTrue, List, [], ◌∷◌, length, get_or, refl, ℤ, ◌≤ℤ◌, ◌<ℤ◌}
use Rattle.std.proofs.Common.{inl, inr, sym, ◌∙◌, ap, arith}
use Rattle.std.proofs.lemmas.Bool.{false≢true, and_parts, and_from, or_cases, or_left, or_right, eqb-true, eq-eqb, cases_Bool, cases_eq}
use Rattle.std.proofs.lemmas.Int.{ints, by_lt_z}
use Rattle.auction_model.specs.Market.{is_earlier}
use Rattle.auction_model.specs.Greatest.{IsFirstGreatest}
use Rattle.auction_model.proofs.PlainLaws.{IsFirstGreatest-same}
use Rattle.auction_model.proofs.OrderLaws.{before-self, before-greater, before-none, earlier-says, earlier-number, earlier-not_both}

-- the first of the greatest choices that pass, or none passes
abbrev pub HasFirst : (List ℕ → Bool) → (List ℕ → ℤ) → Type 0
HasFirst passes value = ((c : List ℕ) × IsFirstGreatest passes value c) ⊎ ((c : List ℕ) → IsTrue (passes c) → ⊥)

has-same : (p q : List ℕ → Bool) (value : List ℕ → ℤ) → ((c : List ℕ) → p c ≡ q c) → HasFirst p value → HasFirst q value
has-same p q value same (inl found) = inl (found.0, IsFirstGreatest-same p q value value found.0 same (λ d. refl) found.1)
has-same p q value same (inr none) = inr (λ c t. none c (same c ∙ t))

-- of two sets, one before the other
module _ (p q : List ℕ → Bool) (value : List ℕ → ℤ) (before : (c d : List ℕ) → IsTrue (p c) → IsTrue (q d) → IsTrue (is_earlier c d)) where
  first-kept : (a b : List ℕ) → IsFirstGreatest p value a → IsFirstGreatest q value b → value b ≤ℤ value a → IsFirstGreatest (λ c. p c || q c) value a
  first-kept a b g h most = record {
    passed = or_left (p a) (q a) g.passed;
    greatest = λ d t. elim (or_cases (p d) (q d) t) [
      | inl own ↦ g.greatest d own
      | inr other ↦ let low : value d ≤ℤ value b = h.greatest d other in omega (arith, ints, low, most)
    ];
    first = λ d t earlier. elim (or_cases (p d) (q d) t) [
      | inl own ↦ g.first d own earlier
      | inr other ↦ absurd (earlier-not_both a d (before a d g.passed other) earlier)
    ];
  }

  second-taken : (a b : List ℕ) → IsFirstGreatest p value a → IsFirstGreatest q value b → value a <ℤ value b → IsFirstGreatest (λ c. p c || q c) value b
  second-taken a b g h less = record {
    passed = or_right (p b) (q b) h.passed;
    greatest = λ d t. elim (or_cases (p d) (q d) t) [
      | inl own ↦ let low : value d ≤ℤ value a = g.greatest d own in omega (arith, ints, low, less)
      | inr other ↦ h.greatest d other
    ];
    first = λ d t earlier. elim (or_cases (p d) (q d) t) [
      | inl own ↦ let low : value d ≤ℤ value a = g.greatest d own in omega (arith, ints, low, less)
      | inr other ↦ h.first d other earlier
    ];
  }

  first-alone : (a : List ℕ) → IsFirstGreatest p value a → ((c : List ℕ) → IsTrue (q c) → ⊥) → IsFirstGreatest (λ c. p c || q c) value a
  first-alone a g none = record {
    passed = or_left (p a) (q a) g.passed;
    greatest = λ d t. elim (or_cases (p d) (q d) t) [ inl own ↦ g.greatest d own | inr other ↦ absurd (none d other) ];
    first = λ d t earlier. elim (or_cases (p d) (q d) t) [ inl own ↦ g.first d own earlier | inr other ↦ absurd (none d other) ];
  }

  second-alone : (b : List ℕ) → IsFirstGreatest q value b → ((c : List ℕ) → IsTrue (p c) → ⊥) → IsFirstGreatest (λ c. p c || q c) value b
  second-alone b h none = record {
    passed = or_right (p b) (q b) h.passed;
    greatest = λ d t. elim (or_cases (p d) (q d) t) [ inl own ↦ absurd (none d own) | inr other ↦ h.greatest d other ];
    first = λ d t earlier. elim (or_cases (p d) (q d) t) [ inl own ↦ absurd (none d own) | inr other ↦ h.first d other earlier ];
  }

  either : HasFirst p value → HasFirst q value → HasFirst (λ c. p c || q c) value
  either (inl a) (inl b) = by_lt_z (value a.0) (value b.0) (λ less. inl (b.0, second-taken a.0 b.0 a.1 b.1 less))
      (λ most. inl (a.0, first-kept a.0 b.0 a.1 b.1 most))
  either (inl a) (inr none) = inl (a.0, first-alone a.0 a.1 none)
  either (inr none) (inl b) = inl (b.0, second-alone b.0 b.1 none)
  either (inr none) (inr no_other) = inr (λ c t. elim (or_cases (p c) (q c) t) [ inl own ↦ none c own | inr other ↦ no_other c other ])

-- the choices that begin with a number, and those that begin with one of 1 to n
abbrev pub begins : ℕ → List ℕ → Bool
begins i [] = false
begins i (h ∷ c) = h == i

abbrev pub begins_to : ℕ → List ℕ → Bool
begins_to zero c = false
begins_to (suc n) c = begins_to n c || begins (suc n) c

begins-is : (i h : ℕ) (c : List ℕ) → IsTrue (begins i (h ∷ c)) → h ≡ i
begins-is i h c t = eqb-true h i t

begins-none : (n : ℕ) → IsTrue (begins_to n []) → ⊥
begins-none zero t = false≢true t
begins-none (suc n) t = elim (or_cases (begins_to n []) (begins (suc n) []) t) [ inl low ↦ begins-none n low | inr own ↦ false≢true own ]

begins_to-low : (n h : ℕ) (c : List ℕ) → IsTrue (begins_to n (h ∷ c)) → (i : ℕ) × (h ≡ suc i) × (i < n)
begins_to-low zero h c t = absurd (false≢true t)
begins_to-low (suc n) h c t =
    elim (or_cases (begins_to n (h ∷ c)) (begins (suc n) (h ∷ c)) t) [
      | inl low ↦ let p = begins_to-low n h c low in (p.0, p.1, omega (arith, p.2))
      | inr own ↦ (n, eqb-true h (suc n) own, omega arith)
    ]

begins_to-from : (n i : ℕ) (c : List ℕ) → i < n → IsTrue (begins_to n (suc i ∷ c))
begins_to-from zero i c h = absurd (omega (arith, h))
begins_to-from (suc n) i c h =
    elim (cases_eq i n) [
      | inl same ↦ or_right (begins_to n (suc i ∷ c)) (begins (suc n) (suc i ∷ c)) (eq-eqb (suc i) (suc n) (ap suc same))
      | inr other ↦ or_left (begins_to n (suc i ∷ c)) (begins (suc n) (suc i ∷ c)) (begins_to-from n i c (omega (arith, h, other)))
    ]

module _ (passes : List ℕ → Bool) (value : List ℕ → ℤ) where
  -- the choices that begin with i, from what follows i
  begun : (i : ℕ) → HasFirst (λ c. passes (i ∷ c)) (λ c. value (i ∷ c)) → HasFirst (λ c. passes c && begins i c) value
  begun i (inl found) = inl (
    i ∷ found.0,
    record {
      passed = and_from (passes (i ∷ found.0)) (begins i (i ∷ found.0)) found.1.passed (eq-eqb i i refl);
      greatest = greatest;
      first = first;
    },
  )
    where
      greatest : (d : List ℕ) → IsTrue (passes d && begins i d) → value d ≤ℤ value (i ∷ found.0)
      greatest [] t = absurd (false≢true (and_parts (passes []) (begins i []) t).1)
      greatest (h ∷ d) t =
          let p = and_parts (passes (h ∷ d)) (begins i (h ∷ d)) t in
          let same = begins-is i h d p.1 in
          rw same (found.1.greatest d (rw same at p.0))

      first : (d : List ℕ) → IsTrue (passes d && begins i d) → IsTrue (is_earlier d (i ∷ found.0)) → value d <ℤ value (i ∷ found.0)
      first [] t earlier = absurd (false≢true earlier)
      first (h ∷ d) t earlier =
          let p = and_parts (passes (h ∷ d)) (begins i (h ∷ d)) t in
          let same = begins-is i h d p.1 in
          elim (earlier-says h i d found.0 earlier) [
            | inl before ↦ absurd (before-self i (rw same at before))
            | inr rest ↦ rw same (found.1.first d (rw same at p.0) rest.1)
          ]
  begun i (inr none) = inr no_such
    where
      no_such : (c : List ℕ) → IsTrue (passes c && begins i c) → ⊥
      no_such [] t = false≢true (and_parts (passes []) (begins i []) t).1
      no_such (h ∷ c) t = let p = and_parts (passes (h ∷ c)) (begins i (h ∷ c)) t in let same = begins-is i h c p.1 in none c (rw same at p.0)

  share : (a b t : Bool) → (t && a) || (t && b) ≡ t && (a || b)
  share a b true = refl
  share a b false = refl

  -- those that begin with one of 1 to n
  begun-to : (n : ℕ) → ((i : ℕ) → HasFirst (λ c. passes (i ∷ c)) (λ c. value (i ∷ c))) → HasFirst (λ c. passes c && begins_to n c) value
  begun-to zero rest = inr (λ c t. false≢true (and_parts (passes c) false t).1)
  begun-to (suc n) rest =
      has-same (λ c. (passes c && begins_to n c) || (passes c && begins (suc n) c)) (λ c. passes c && begins_to (suc n) c) value
      (λ c. share (begins_to n c) (begins (suc n) c) (passes c))
      (either (λ c. passes c && begins_to n c) (λ c. passes c && begins (suc n) c) value before (begun-to n rest) (begun (suc n) (rest (suc n))))
    where
      before : (c d : List ℕ) → IsTrue (passes c && begins_to n c) → IsTrue (passes d && begins (suc n) d) → IsTrue (is_earlier c d)
      before [] d t u = absurd (begins-none n (and_parts (passes []) (begins_to n []) t).1)
      before (g ∷ c) [] t u = absurd (false≢true (and_parts (passes []) (begins (suc n) []) u).1)
      before (g ∷ c) (h ∷ d) t u =
          let low = begins_to-low n g c (and_parts (passes (g ∷ c)) (begins_to n (g ∷ c)) t).1 in
          let high = begins-is (suc n) h d (and_parts (passes (h ∷ d)) (begins (suc n) (h ∷ d)) u).1 in
          earlier-number g h c d (rw (low.1, high) (before-greater low.0 n low.2))

  -- all that begin with a number of at most n
  begun-all : (n : ℕ) → ((i : ℕ) → HasFirst (λ c. passes (i ∷ c)) (λ c. value (i ∷ c)))
      → HasFirst (λ c. (passes c && begins_to n c) || (passes c && begins 0 c)) value
  begun-all n rest = either (λ c. passes c && begins_to n c) (λ c. passes c && begins 0 c) value before (begun-to n rest) (begun 0 (rest 0))
    where
      before : (c d : List ℕ) → IsTrue (passes c && begins_to n c) → IsTrue (passes d && begins 0 d) → IsTrue (is_earlier c d)
      before [] d t u = absurd (begins-none n (and_parts (passes []) (begins_to n []) t).1)
      before (g ∷ c) [] t u = absurd (false≢true (and_parts (passes []) (begins 0 []) u).1)
      before (g ∷ c) (h ∷ d) t u =
          let low = begins_to-low n g c (and_parts (passes (g ∷ c)) (begins_to n (g ∷ c)) t).1 in
          let high = begins-is 0 h d (and_parts (passes (h ∷ d)) (begins 0 (h ∷ d)) u).1 in
          earlier-number g h c d (rw (low.1, high) (before-none low.0))

-- the choices that pass have n numbers, each of at most its cap
abbrev pub AreBounded : (List ℕ → Bool) → ℕ → (ℕ → ℕ) → Type 0
AreBounded passes n caps = (c : List ℕ) → IsTrue (passes c) → (length c ≡ n) × ((i : ℕ) → i < n → get_or c i 0 ≤ caps i)

-- of choices that are bounded so, one is the first of the greatest, or none passes
pub has-first : (n : ℕ) (caps : ℕ → ℕ) (passes : List ℕ → Bool) (value : List ℕ → ℤ) → AreBounded passes n caps → HasFirst passes value
has-first zero caps passes value bounded = by (cases_Bool (passes []))
  where
    empty : (c : List ℕ) → length c ≡ 0 → c ≡ []
    empty [] e = refl
    empty (i ∷ c) e = absurd (omega (arith, e))

    by : (passes [] ≡ true) ⊎ (passes [] ≡ false) → HasFirst passes value
    by (inl t) = inl (
      [],
      record {
        passed = t;
        greatest = λ d u. let e = empty d (bounded d u).0 in rw e (omega (arith, ints));
        first = λ d u earlier. let e = empty d (bounded d u).0 in absurd (false≢true (rw e at earlier));
      },
    )
    by (inr f) = inr (λ c u. let e = empty c (bounded c u).0 in false≢true (sym f ∙ (rw e at u)))
has-first (suc n) caps passes value bounded =
    has-same (λ c. (passes c && begins_to (caps 0) c) || (passes c && begins 0 c)) passes value same
    (begun-all passes value (caps 0) (λ i. has-first n (λ j. caps (suc j)) (λ c. passes (i ∷ c)) (λ c. value (i ∷ c))
    (λ c t. let b = bounded (i ∷ c) t in (omega (arith, b.0), λ j h. b.1 (suc j) (omega (arith, h))))))
  where
    whole : (t a b : Bool) → (IsTrue t → IsTrue (a || b)) → (t && a) || (t && b) ≡ t
    whole true a b h = h refl
    whole false a b h = refl

    begun-one : (c : List ℕ) → IsTrue (passes c) → IsTrue (begins_to (caps 0) c || begins 0 c)
    begun-one [] t = absurd (omega (arith, (bounded [] t).0))
    begun-one (zero ∷ c) t = or_right (begins_to (caps 0) (zero ∷ c)) (begins 0 (zero ∷ c)) (eq-eqb 0 0 refl)
    begun-one (suc i ∷ c) t = or_left (begins_to (caps 0) (suc i ∷ c)) (begins 0 (suc i ∷ c))
        (begins_to-from (caps 0) i c (let low : suc i ≤ caps 0 = (bounded (suc i ∷ c) t).1 0 (omega arith) in omega (arith, low)))

    same : (c : List ℕ) → (passes c && begins_to (caps 0) c) || (passes c && begins 0 c) ≡ passes c
    same c = whole (passes c) (begins_to (caps 0) c) (begins 0 c) (begun-one c)
