-- The winners in order, as bidders: the place and the row of each.
use Rattle.std.specs.Prelude.{◌≡◌, ◌≢◌, ℕ, zero, suc, ◌+◌, ◌-◌, ◌*◌, ◌/◌, ◌%◌, ◌^◌, ◌<◌, ◌==◌, true, false, not, List, [], ◌∷◌, length, get_or, ℤ, refl}
use Rattle.std.proofs.Common.{sym, ◌∙◌, ap, arith, ◌⊎◌, inl, inr}
use Rattle.std.proofs.Math.Nat.{pow-suc}
use Rattle.std.proofs.lemmas.Bool.{ne_eqb, eq-eqb, cases_eq}
use Rattle.auction_model.specs.Market.{uses}
use Rattle.auction_model.specs.PricingRun.{BidderRow, single_rows}
use Rattle.choices.specs.Singles.{winners_after}
use Rattle.wide_num.specs.Sums.{nth}
use Rattle.core_laws.specs.Winners.{for_bidders, has_bit, winners_in}
use Rattle.core_laws.proofs.Bits.{no-bit}

-- how many bidders come before the winner i + 1
abbrev pub spot : List ℕ → ℕ → ℕ
spot [] i = 0
spot (zero ∷ z) i = suc (spot z i)
spot (suc n ∷ z) zero = 0
spot (suc n ∷ z) (suc i) = suc (spot z i)

-- fewer bidders come before a winner than there are
pub spot-inside : (z : List ℕ) (i : ℕ) → i < winners_in z → spot z i < length z
spot-inside [] i lt = absurd (omega arith)
spot-inside (zero ∷ z) i lt = let h = spot-inside z i lt in omega arith
spot-inside (suc n ∷ z) zero lt = omega arith
spot-inside (suc n ∷ z) (suc i) lt = let h = spot-inside z i (omega arith) in omega arith

next-used : (x : ℕ) (z : List ℕ) (k : ℕ) → uses (x ∷ z) (suc (suc k)) ≡ uses z (suc k)
next-used x z k = let b : suc (suc k) - 1 ≡ suc (suc k - 1) = omega arith in rw b refl

-- the bidder at the spot of a winner wins
pub spot-wins : (z : List ℕ) (i : ℕ) → i < winners_in z → uses z (suc (spot z i)) ≡ true
spot-wins [] i lt = absurd (omega arith)
spot-wins (zero ∷ z) i lt = next-used 0 z (spot z i) ∙ spot-wins z i lt
spot-wins (suc n ∷ z) zero lt = ap not (ne_eqb (suc n) 0 (omega arith))
spot-wins (suc n ∷ z) (suc i) lt = next-used (suc n) z (spot z i) ∙ spot-wins z i (omega arith)

-- the winner i + 1 is the bidder at its spot
pub spot-winner : (s : ℕ) (z : List ℕ) (i : ℕ) → i < winners_in z → get_or (winners_after s z) i 0 ≡ suc (s + spot z i)
spot-winner s [] i lt = absurd (omega arith)
spot-winner s (zero ∷ z) i lt = spot-winner (suc s) z i lt ∙ omega arith
spot-winner s (suc n ∷ z) zero lt = omega arith
spot-winner s (suc n ∷ z) (suc i) lt = spot-winner (suc s) z i (omega arith) ∙ omega arith

-- as many bidders are listed as winners as there are
pub winners-count : (s : ℕ) (z : List ℕ) → length (winners_after s z) ≡ winners_in z
winners-count s [] = refl
winners-count s (zero ∷ z) = winners-count (suc s) z
winners-count s (suc n ∷ z) = ap suc (winners-count (suc s) z)

-- the bidder at the spot of a winner has the number of that winner
pub spot-number : (z : List ℕ) (i : ℕ) (xs : List ℤ) → i < winners_in z → nth (for_bidders z xs) (spot z i) ≡ nth xs i
spot-number [] i xs lt = absurd (omega arith)
spot-number (zero ∷ z) i xs lt = spot-number z i xs lt
spot-number (suc n ∷ z) zero [] lt = refl
spot-number (suc n ∷ z) zero (x ∷ xs) lt = refl
spot-number (suc n ∷ z) (suc i) [] lt = spot-number z i [] (omega arith)
spot-number (suc n ∷ z) (suc i) (x ∷ xs) lt = spot-number z i xs (omega arith)

-- each winning bidder is a winner in order
pub spot-of : (z : List ℕ) (k : ℕ) → k < length z → uses z (suc k) ≡ true → (i : ℕ) × (i < winners_in z) × (spot z i ≡ k)
spot-of [] k lt e = absurd (omega arith)
spot-of (zero ∷ z) zero lt e = absurd (lie e)
  where
    lie : false ≡ true → ⊥
    lie h = cc
spot-of (zero ∷ z) (suc k) lt e = let r = spot-of z k (omega arith) (sym (next-used 0 z k) ∙ e) in (r.0, r.1, ap suc r.2)
spot-of (suc n ∷ z) zero lt e = (0, omega arith, refl)
spot-of (suc n ∷ z) (suc k) lt e = let r = spot-of z k (omega arith) (sym (next-used (suc n) z k) ∙ e) in (suc r.0, omega (arith, r.1), ap suc r.2)

two-half : (i : ℕ) → 2 ^ suc i / 2 ≡ 2 ^ i
two-half i = let e : 2 ^ suc i ≡ 2 ^ i * 2 = pow-suc 2 i in omega (arith, e)

two-even : (i : ℕ) → 2 ^ suc i % 2 ≡ 0
two-even i = let e : 2 ^ suc i ≡ 2 ^ i * 2 = pow-suc 2 i in omega (arith, e)

next-same : (a b : ℕ) → (a == b) ≡ (suc a == suc b)
next-same a b = by (cases_eq a b)
  where
    by : (a ≡ b) ⊎ (a ≢ b) → (a == b) ≡ (suc a == suc b)
    by (inl e) = eq-eqb a b e ∙ sym (eq-eqb (suc a) (suc b) (ap suc e))
    by (inr d) = ne_eqb a b d ∙ sym (ne_eqb (suc a) (suc b) (λ e. d (omega arith)))

-- the row of one bit has one bidder
pub spot-bit : (z : List ℕ) (i k : ℕ) → i < winners_in z → k < length z → has_bit z (2 ^ i) k ≡ (suc k == suc (spot z i))
spot-bit [] i k lt inside = absurd (omega arith)
spot-bit (zero ∷ z) i zero lt inside = sym (ne_eqb 1 (suc (suc (spot z i))) (omega arith))
spot-bit (zero ∷ z) i (suc k) lt inside = spot-bit z i k lt (omega arith) ∙ next-same (suc k) (suc (spot z i))
spot-bit (suc n ∷ z) zero zero lt inside = refl
spot-bit (suc n ∷ z) zero (suc k) lt inside = no-bit z k ∙ sym (ne_eqb (suc (suc k)) 1 (omega arith))
spot-bit (suc n ∷ z) (suc i) zero lt inside = ap (λ r. r == 1) (two-even i) ∙ sym (ne_eqb 1 (suc (suc (spot z i))) (omega arith))
spot-bit (suc n ∷ z) (suc i) (suc k) lt inside = ap (λ b. has_bit z b k) (two-half i) ∙ spot-bit z i k (omega arith) (omega arith)
    ∙ next-same (suc k) (suc (spot z i))

-- the rows of each bidder alone
pub single-at : (v : ℕ → ℤ) (s : ℕ) (z : List ℕ) (i : ℕ) (d : BidderRow) → i < winners_in z → get_or (single_rows v s z) i d ≡ record
    { members = λ j. j == suc (s + spot z i); bound = v (suc (s + spot z i)) }
single-at v s [] i d lt = absurd (omega arith)
single-at v s (zero ∷ z) i d lt = single-at v (suc s) z i d lt ∙ ap (λ t. one v t)
    (let e : suc (suc s + spot z i) ≡ suc (s + suc (spot z i)) = omega arith in e)
  where
    one : (ℕ → ℤ) → ℕ → BidderRow
    one v t = record { members = λ j. j == t; bound = v t }
single-at v s (suc n ∷ z) zero d lt = ap (λ t. one v t) (let e : suc s ≡ suc (s + 0) = omega arith in e)
  where
    one : (ℕ → ℤ) → ℕ → BidderRow
    one v t = record { members = λ j. j == t; bound = v t }
single-at v s (suc n ∷ z) (suc i) d lt = single-at v (suc s) z i d (omega arith) ∙ ap (λ t. one v t)
    (let e : suc (suc s + spot z i) ≡ suc (s + suc (spot z i)) = omega arith in e)
  where
    one : (ℕ → ℤ) → ℕ → BidderRow
    one v t = record { members = λ j. j == t; bound = v t }

-- there is one single row for each winner
pub singles-count : (v : ℕ → ℤ) (s : ℕ) (z : List ℕ) → length (single_rows v s z) ≡ winners_in z
singles-count v s [] = refl
singles-count v s (zero ∷ z) = singles-count v (suc s) z
singles-count v s (suc n ∷ z) = ap suc (singles-count v (suc s) z)
