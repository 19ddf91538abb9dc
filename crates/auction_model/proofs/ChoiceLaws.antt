-- Choices taken bidder by bidder: which are known, which fit, and their sums.
use Rattle.std.specs.Prelude.{◌≡◌, ◌≢◌, ℕ, zero, suc, ◌+◌, ◌≤◌, ◌<◌, true, false, ◌&&◌, nat_le, IsTrue, List, [], ◌∷◌, length, drop, get_or, ℤ, ◌+ℤ◌, refl}
use Rattle.std.proofs.Common.{◌∙◌, ap, arith, add-one, drop-cons}
use Rattle.std.proofs.lemmas.Bool.{and_parts, and_left, eqb-true, leb-true, le-leb, lt-leb}
use Rattle.auction_model.specs.Package.{is_within, less}
use Rattle.auction_model.specs.Menu.{Menu, is_known_after, fits_after}
use Rattle.auction_model.specs.Market.{sum_after}
use Rattle.auction_model.proofs.MenuLaws.{fits-cons}

-- a known choice has one number for each bidder
pub known-length : (m : Menu) (k : ℕ) (c : List ℕ) → IsTrue (is_known_after m k c) → k + length c ≡ m.bidders
known-length m k [] t = omega (arith, eqb-true k m.bidders t)
known-length m k (i ∷ c) t = omega (arith, known-length m (suc k) c (and_parts (nat_le i (m.bids (suc k))) (is_known_after m (suc k) c) t).1)

-- and each is the number of a bid or 0
pub known-at : (m : Menu) (k : ℕ) (c : List ℕ) (i : ℕ) → IsTrue (is_known_after m k c) → i < length c → get_or c i 0 ≤ m.bids (suc k + i)
known-at m k [] i t h = absurd (omega arith)
known-at m k (x ∷ c) zero t h = let same : suc k + 0 ≡ suc k = omega arith in rw same
    (leb-true x (m.bids (suc k)) (and_parts (nat_le x (m.bids (suc k))) (is_known_after m (suc k) c) t).0)
known-at m k (x ∷ c) (suc i) t h = let same : suc k + suc i ≡ suc (suc k) + i = omega arith in rw same
    (known-at m (suc k) c i (and_parts (nat_le x (m.bids (suc k))) (is_known_after m (suc k) c) t).1 (omega arith))

-- the number that a known choice has for bidder k + 1 is at most the number of that bidder's bids
pub known-of : (m : Menu) (c : List ℕ) (k : ℕ) → IsTrue (is_known_after m 0 c) → k < length c → get_or c k 0 ≤ m.bids (k + 1)
known-of m c k t h = let same : suc 0 + k ≡ k + 1 = omega arith in rw same at (known-at m 0 c k t h)

-- a choice with more or fewer numbers than there are bidders isn't known
pub other-length : (m : Menu) (c : List ℕ) → length c ≢ m.bidders → is_known_after m 0 c ≡ false
other-length m c other =
    elim (is_known_after m 0 c) as (λ b. is_known_after m 0 c ≡ b → b ≡ false) [
      | true ↦ λ e. absurd (other (omega (arith, known-length m 0 c e)))
      | false ↦ λ e. refl
    ] refl

module _ (m : Menu) (c : List ℕ) (k : ℕ) (inside : k < length c) where
  known-step : is_known_after m k (drop k c) ≡ nat_le (get_or c k 0) (m.bids (k + 1)) && is_known_after m (k + 1) (drop (k + 1) c)
  known-step = rw (add-one, drop-cons c k 0) refl

  -- with a number above the bids of bidder k + 1 the choice from there on isn't known
  pub known-fails : m.bids (k + 1) < get_or c k 0 → is_known_after m k (drop k c) ≡ false
  known-fails low = known-step ∙ and_left _ (is_known_after m (k + 1) (drop (k + 1) c)) (lt-leb (get_or c k 0) (m.bids (k + 1)) low)

  -- with a number of bidder k + 1 in range the choice is known exactly if the rest is
  pub known-goes_on : get_or c k 0 ≤ m.bids (k + 1) → is_known_after m k (drop k c) ≡ is_known_after m (k + 1) (drop (k + 1) c)
  known-goes_on low = known-step ∙ ap (λ b. b && is_known_after m (k + 1) (drop (k + 1) c)) (le-leb (get_or c k 0) (m.bids (k + 1)) low)

  fits-step : (left : List ℕ) → fits_after m k left (drop k c) ≡ nat_le (get_or c k 0) (m.bids (k + 1)) &&
      (is_within (m.lots (k + 1) (get_or c k 0)) left && fits_after m (k + 1) (less left (m.lots (k + 1) (get_or c k 0))) (drop (k + 1) c))
  fits-step left = rw (add-one, drop-cons c k 0) (fits-cons m k left (get_or c k 0) (drop (suc k) c))

  -- if the package of bidder k + 1 isn't within what is left, the choice doesn't fit
  pub fits-fails : (left : List ℕ) → get_or c k 0 ≤ m.bids (k + 1) → is_within (m.lots (k + 1) (get_or c k 0)) left ≡ false
      → fits_after m k left (drop k c) ≡ false
  fits-fails left known out =
      fits-step left
      ∙ ap (λ b. b && (is_within (m.lots (k + 1) (get_or c k 0)) left && fits_after m (k + 1) (less left (m.lots (k + 1) (get_or c k 0))) (drop (k + 1) c)))
      (le-leb (get_or c k 0) (m.bids (k + 1)) known)
      ∙ and_left _ (fits_after m (k + 1) (less left (m.lots (k + 1) (get_or c k 0))) (drop (k + 1) c)) out

  -- if that package is within what is left, the choice fits exactly if the rest fits in what it leaves
  pub fits-goes_on : (left : List ℕ) → get_or c k 0 ≤ m.bids (k + 1) → IsTrue (is_within (m.lots (k + 1) (get_or c k 0)) left)
      → fits_after m k left (drop k c) ≡ fits_after m (k + 1) (less left (m.lots (k + 1) (get_or c k 0))) (drop (k + 1) c)
  fits-goes_on left known own =
      fits-step left
      ∙ ap (λ b. b && (is_within (m.lots (k + 1) (get_or c k 0)) left && fits_after m (k + 1) (less left (m.lots (k + 1) (get_or c k 0))) (drop (k + 1) c)))
      (le-leb (get_or c k 0) (m.bids (k + 1)) known)
      ∙ ap (λ b. b && fits_after m (k + 1) (less left (m.lots (k + 1) (get_or c k 0))) (drop (k + 1) c)) own

-- the sum of one bidder more
pub sum-step : (worth : ℕ → ℕ → ℤ) (c : List ℕ) (k : ℕ) → k < length c → sum_after worth k (drop k c) ≡ worth (k + 1) (get_or c k 0) +ℤ sum_after worth
    (k + 1) (drop (k + 1) c)
sum-step worth c k inside = rw (add-one, drop-cons c k 0) refl
