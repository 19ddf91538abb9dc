-- The places of the winners among the bidders.
use Rattle.std.specs.Prelude.{◌≡◌, ℕ, zero, suc, ◌-◌, ◌/◌, ◌%◌, ◌<◌, ◌==◌, true, false, List, [], ◌∷◌, length, ℤ, pos, refl}
use Rattle.std.proofs.Common.{◌∙◌, arith}
use Rattle.std.proofs.lemmas.Nat.{mod_below}
use Rattle.auction_model.specs.Market.{uses}
use Rattle.far_num.specs.Members.{holds}
use Rattle.wide_num.specs.Sums.{nth}
use Rattle.core_laws.specs.Winners.{for_bidders, has_bit, winners_in}
use Rattle.core_laws.proofs.Bits.{holds-front, holds-rest}

-- the bidder k + 1 is the winner i + 1
pub record IsPlace (z : List ℕ) (k i : ℕ) : Type 0 where
  pub inside : i < winners_in z
  pub member : (bits : ℕ) → ¬ (holds bits i ≡ pos 0) → has_bit z bits k ≡ true
  pub number : (xs : List ℤ) → nth (for_bidders z xs) k ≡ nth xs i

odd : (r : ℕ) → r < 2 → ¬ (pos r ≡ pos 0) → (r == 1) ≡ true
odd zero h d = absurd (d refl)
odd (suc zero) h d = refl
odd (suc (suc r)) h d = absurd (omega arith)

-- each winning bidder has a place among the winners
pub place-of : (z : List ℕ) (k : ℕ) → k < length z → uses z (suc k) ≡ true → (i : ℕ) × IsPlace z k i
place-of [] k lt e = absurd (omega arith)
place-of (zero ∷ z) zero lt e = absurd (lie e)
  where
    lie : false ≡ true → ⊥
    lie h = cc
place-of (zero ∷ z) (suc k) lt e =
    let r = place-of z k (omega arith) (let b : suc (suc k) - 1 ≡ suc (suc k - 1) = omega arith in rw b at e) in
    (r.0, record { inside = r.1.inside; member = r.1.member; number = r.1.number })
place-of (suc n ∷ z) zero lt e = (
  0,
  record {
    inside = omega arith;
    member = λ bits d. odd (bits % 2) (mod_below bits 2 (omega arith))
        (λ q. d (holds-front bits ∙ q));
    number = λ xs. first xs;
  },
)
  where
    first : (xs : List ℤ) → nth (for_bidders (suc n ∷ z) xs) 0 ≡ nth xs 0
    first [] = refl
    first (x ∷ xs) = refl
place-of (suc n ∷ z) (suc k) lt e =
    let r = place-of z k (omega arith) (let b : suc (suc k) - 1 ≡ suc (suc k - 1) = omega arith in rw b at e) in (
      suc r.0,
      record {
        inside = omega (arith, r.1.inside);
        member = λ bits d. r.1.member (bits / 2) (λ q. d (holds-rest bits r.0 ∙ q));
        number = λ xs. next xs r.0 r.1.number;
      },
    )
  where
    next : (xs : List ℤ) (i : ℕ) → ((ys : List ℤ) → nth (for_bidders z ys) k ≡ nth ys i) → nth (for_bidders (suc n ∷ z) xs) (suc k) ≡ nth xs (suc i)
    next [] i h = h []
    next (x ∷ xs) i h = h xs
