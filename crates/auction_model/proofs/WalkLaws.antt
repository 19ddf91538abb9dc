-- The walk over the bidders, by places and by the number of the bidder.
use Rattle.std.specs.Prelude.{true, nat_lt, ◌==◌, ◌||◌, ◌≡◌, ℕ, zero, suc, ◌+◌, ◌-◌, ◌≤◌, ◌<◌, IsTrue, List, [], ◌∷◌, get_or, ℤ, pos, ◌≤ℤ◌, ◌<ℤ◌, refl}
use Rattle.std.proofs.Common.{inl, inr, subst, arith}
use Rattle.std.proofs.lemmas.Bool.{and_parts, or_cases, ltb-true, eqb-true}
use Rattle.auction_model.specs.Package.{is_within, less}
use Rattle.auction_model.specs.Place.{states_of, place_of, left_at}
use Rattle.auction_model.specs.Market.{sum_after, is_number_before}
use Rattle.auction_model.specs.Greatest.{IsFirstGreatest}
use Rattle.auction_model.specs.Menu.{Menu, fits_after}
use Rattle.auction_model.specs.Table.{IsEntry, IsLine}
use Rattle.auction_model.specs.Steps.{sum_with, IsFirstNumber}
use Rattle.auction_model.proofs.PackageLaws.{less-empty}
use Rattle.auction_model.proofs.PlaceLaws.{left_at-less, place-less_below}
use Rattle.auction_model.proofs.TraceLaws.{short-below, entry-bounds, first-step, zero-reaches}

module _ (m : Menu) (counts : ℕ → ℕ → ℤ) (supply : List ℕ) (k s : ℕ) (inside : k < m.bidders) (place : s < states_of supply) (here : ℤ) (below : List ℤ)
    (e : IsEntry m counts k (left_at supply s) here) (b : IsLine m counts supply (suc k) below) where
  below-at : (i : ℕ) → IsEntry m counts (suc k) (less (left_at supply s) (m.lots (suc k) i))
      (get_or below (place_of supply (less (left_at supply s) (m.lots (suc k) i))) (pos 0))
  below-at i = rw left_at-less at (b.exact (place_of supply (less (left_at supply s) (m.lots (suc k) i))) (place-less_below supply (m.lots (suc k) i) s place))

  -- no number gives more than the entry
  pub sum-bounds : (i : ℕ) → i ≤ m.bids (suc k) → IsTrue (is_within (m.lots (suc k) i) (left_at supply s)) → sum_with m counts supply (suc k) s below i ≤ℤ here
  sum-bounds i known own = entry-bounds m counts k (left_at supply s) here _ i inside known own e (below-at i)

  -- if no bid reaches the entry, number 0 does
  pub zero-sum : m.lots (suc k) 0 ≡ [] → ((i : ℕ) → suc i ≤ m.bids (suc k) → IsTrue (is_within (m.lots (suc k) (suc i)) (left_at supply s))
      → sum_with m counts supply (suc k) s below (suc i) <ℤ here) → here ≡ sum_with m counts supply (suc k) s below 0
  zero-sum none low =
      let left = left_at supply s in
      let whole : less left (m.lots (suc k) 0) ≡ left = rw none (less-empty left) in
      let at : IsEntry m counts (suc k) left (get_or below (place_of supply (less left (m.lots (suc k) 0))) (pos 0)) =
      subst (λ x. IsEntry m counts (suc k) x (get_or below (place_of supply (less left (m.lots (suc k) 0))) (pos 0))) whole (below-at 0) in
      zero-reaches m counts k left here _ inside none e at (λ i known own. short-below m counts k left here _ (suc i) (below-at (suc i)) (low i known own) own)

  -- one bidder more of the walk
  pub walk-step : (i : ℕ) (r : List ℕ) → i ≤ m.bids (suc k) → IsFirstNumber m counts supply (suc k) s here below i
      → IsFirstGreatest (fits_after m (suc k) (left_at supply (place_of supply (less (left_at supply s) (m.lots (suc k) i))))) (sum_after counts (suc k)) r
      → IsFirstGreatest (fits_after m k (left_at supply s)) (sum_after counts k) (i ∷ r)
  walk-step i r known n g =
      first-step m counts k (left_at supply s) here _ i r inside known n.fits e (below-at i) n.reaches
      (λ h before known_h own_h. short-below m counts k (left_at supply s) here _ h (below-at h) (n.first h before known_h own_h) own_h)
      (rw left_at-less at g)

-- the same, by the number of the bidder
module _ (m : Menu) (counts : ℕ → ℕ → ℤ) (supply : List ℕ) (j s : ℕ) (some : zero < j) (inside : j ≤ m.bidders) (place : s < states_of supply) (here : ℤ)
    (below : List ℤ) (e : IsEntry m counts (j - 1) (left_at supply s) here) (b : IsLine m counts supply j below) where
  next : suc (j - 1) ≡ j
  next = omega arith

  -- what bidder j counts with a number that fits, and the rest with what is left, is at most the entry
  pub number-bounds : (i : ℕ) → i ≤ m.bids j → IsTrue (is_within (m.lots j i) (left_at supply s)) → sum_with m counts supply j s below i ≤ℤ here
  number-bounds i known own = rw next at (sum-bounds m counts supply (j - 1) s (omega arith) place here below e (rw next b) i (rw next known) (rw next own))

  low-at : (n h : ℕ) → zero < h → h ≤ n → ((i : ℕ) → i < n → IsTrue (is_within (m.lots j (i + 1)) (left_at supply s))
      → sum_with m counts supply j s below (i + 1) <ℤ here) → IsTrue (is_within (m.lots j h) (left_at supply s)) → sum_with m counts supply j s below h <ℤ here
  low-at n zero p q low own = absurd (omega arith)
  low-at n (suc i) p q low own =
      let up : i + 1 ≡ suc i = omega arith in
      rw up at (low i (omega arith) (rw up own))

  before-zero : (h : ℕ) → IsTrue (is_number_before h 0) → zero < h
  before-zero h t = ltb-true 0 h (and_parts (nat_lt 0 h) true t).0

  before-more : (h i : ℕ) → IsTrue (is_number_before h (i + 1)) → (zero < h) × (h ≤ i)
  before-more h i t =
      let p = and_parts (nat_lt 0 h) ((i + 1 == 0) || nat_lt h (i + 1)) t in (
        ltb-true 0 h p.0,
        elim (or_cases (i + 1 == 0) (nat_lt h (i + 1)) p.1) [
          | inl none ↦ absurd (omega (arith, eqb-true (i + 1) 0 none))
          | inr less_than ↦ omega (arith, ltb-true h (i + 1) less_than)
        ],
      )

  -- no bid reaches the entry
  pub number-none : m.lots j 0 ≡ [] → ((i : ℕ) → i < m.bids j → IsTrue (is_within (m.lots j (i + 1)) (left_at supply s))
      → sum_with m counts supply j s below (i + 1) <ℤ here) → IsFirstNumber m counts supply j s here below 0
  number-none none low = record {
    fits = rw none refl;
    reaches = rw next at (zero-sum m counts supply (j - 1) s (omega arith) place here below e (rw next b) (rw next none)
        (λ i known own. rw next (low-at (m.bids j) (suc i) (omega arith) (rw next at known) low (rw next at own))));
    first = λ h before known own. low-at (m.bids j) h (before-zero h before) known low own;
  }

  -- the first bid that reaches it
  pub number-found : (i : ℕ) → IsTrue (is_within (m.lots j (i + 1)) (left_at supply s)) → here ≡ sum_with m counts supply j s below (i + 1)
      → ((h : ℕ) → h < i → IsTrue (is_within (m.lots j (h + 1)) (left_at supply s)) → sum_with m counts supply j s below (h + 1) <ℤ here)
      → IsFirstNumber m counts supply j s here below (i + 1)
  number-found i own is low = record {
    fits = own;
    reaches = is;
    first = λ h before known own_h. let p = before-more h i before in low-at i h p.0 p.1 low own_h;
  }

  -- the walk goes on with the number
  pub walk-by : (i : ℕ) (r : List ℕ) → i ≤ m.bids j → IsFirstNumber m counts supply j s here below i
      → IsFirstGreatest (fits_after m j (left_at supply (place_of supply (less (left_at supply s) (m.lots j i))))) (sum_after counts j) r
      → IsFirstGreatest (fits_after m (j - 1) (left_at supply s)) (sum_after counts (j - 1)) (i ∷ r)
  walk-by i r known n g = walk-step m counts supply (j - 1) s (omega arith) place here below e (rw next b) i r (rw next known) (rw next n) (rw next g)
