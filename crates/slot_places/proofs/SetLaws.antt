-- Sets of bidders: with one more, how many are outside, and one of them that passes.
use Rattle.std.specs.Prelude.{◌≡◌, ℕ, zero, suc, ◌≤◌, ◌<◌, Bool, true, false, cond, ◌||◌, ◌==◌, IsTrue, refl}
use Rattle.std.proofs.Common.{inl, inr, sym, ◌∙◌, ap, arith, subst}
use Rattle.std.proofs.lemmas.Bool.{false≢true, or_cases, or_left, or_right, eq-eqb, ne_eqb, cases_Bool, cases_eq}
use Rattle.slot_places.specs.Board.{nobody, joined, some_of, outside}

-- the set with a bidder holds it
pub joined-self : (j : ℕ) (s : ℕ → Bool) → joined j s j ≡ true
joined-self j s = or_left (j == j) (s j) (eq-eqb j j refl)

-- the set with a bidder says of all others what the set says
pub joined-other : (j : ℕ) (s : ℕ → Bool) (i : ℕ) → (i ≡ j → ⊥) → joined j s i ≡ s i
joined-other j s i other = ap (λ b. b || s i) (ne_eqb i j other)

-- who is outside the set with one more is outside the set, and another bidder
pub joined-new : (j : ℕ) (s : ℕ → Bool) (i : ℕ) → joined j s i ≡ false → s i ≡ false
joined-new j s i f =
    elim (cases_Bool (s i)) [
      | inl t ↦ absurd (false≢true (sym f ∙ or_right (i == j) (s i) t))
      | inr out ↦ out
    ]

-- who is outside the set with a bidder isn't that bidder
pub joined-differs : (j : ℕ) (s : ℕ → Bool) (i : ℕ) → joined j s i ≡ false → i ≡ j → ⊥
joined-differs j s i f same = false≢true (sym f ∙ or_left (i == j) (s i) (eq-eqb i j same))

-- if a bidder passes, some bidder passes
pub some-at : (p : ℕ → Bool) (n j : ℕ) → 0 < j → j ≤ n → IsTrue (p j) → IsTrue (some_of p n)
some-at p zero j some low t = absurd (omega (arith, some, low))
some-at p (suc n) j some low t =
    elim (cases_eq j (suc n)) [
      | inl same ↦ or_right (some_of p n) (p (suc n)) (rw same at t)
      | inr other ↦ or_left (some_of p n) (p (suc n)) (some-at p n j some (omega (arith, low, other)) t)
    ]

-- if some bidder passes, there is one that does
pub some-which : (p : ℕ → Bool) (n : ℕ) → IsTrue (some_of p n) → (j : ℕ) × (0 < j) × (j ≤ n) × IsTrue (p j)
some-which p zero t = absurd (false≢true t)
some-which p (suc n) t =
    elim (or_cases (some_of p n) (p (suc n)) t) [
      | inl low ↦ let q = some-which p n low in (q.0, q.1, omega (arith, q.2), q.3)
      | inr own ↦ (suc n, omega arith, omega arith, own)
    ]

-- one for each who is outside
abbrev count_one : Bool → ℕ
count_one b = cond b 0 1

-- all bidders are outside the set of nobody
pub outside-nobody : (n : ℕ) → outside nobody n ≡ n
outside-nobody zero = refl
outside-nobody (suc n) = omega (arith, outside-nobody n)

outside-past : (j : ℕ) (s : ℕ → Bool) (n : ℕ) → n < j → outside (joined j s) n ≡ outside s n
outside-past j s zero past = refl
outside-past j s (suc n) past =
    rw (outside-past j s n (omega (arith, past)), joined-other j s (suc n) (λ e. omega (arith, e, past))) refl

-- one more in the set is one less outside
pub outside-joined : (j : ℕ) (s : ℕ → Bool) (n : ℕ) → 0 < j → j ≤ n → s j ≡ false → outside s n ≡ suc (outside (joined j s) n)
outside-joined j s zero some low new = absurd (omega (arith, some, low))
outside-joined j s (suc n) some low new =
    elim (cases_eq j (suc n)) [
      | inl same ↦
          let out : count_one (s (suc n)) ≡ 1 = rw (rw same at new) refl in
          let within : count_one (joined j s (suc n)) ≡ 0 = ap count_one (subst (λ k. joined j s k ≡ true) same (joined-self j s)) in
          let rest = outside-past j s n (omega (arith, same)) in
          omega (arith, out, within, rest)
      | inr other ↦
          let rest = outside-joined j s n some (omega (arith, low, other)) new in
          let own : count_one (joined j s (suc n)) ≡ count_one (s (suc n)) = ap count_one (joined-other j s (suc n) (λ e. other (sym e))) in
          omega (arith, rest, own)
    ]

-- if some are outside there is one
pub outside-some : (s : ℕ → Bool) (n : ℕ) → 0 < outside s n → (j : ℕ) × (0 < j) × (j ≤ n) × (s j ≡ false)
outside-some s zero some = absurd (omega (arith, some))
outside-some s (suc n) some =
    elim (cases_Bool (s (suc n))) [
      | inl t ↦
          let in_set : count_one (s (suc n)) ≡ 0 = rw t refl in
          let q = outside-some s n (omega (arith, some, in_set)) in
          (q.0, q.1, omega (arith, q.2), q.3)
      | inr f ↦ (suc n, omega arith, omega arith, f)
    ]
