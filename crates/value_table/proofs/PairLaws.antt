-- A choice without a bidder: one of the bidders before it and one of those after it, each within its part of the supply.
use Rattle.std.specs.Prelude.{◌≡◌, ℕ, suc, ◌-◌, ◌≤◌, ◌<◌, true, nat_le, IsTrue, List, [], ◌∷◌, length, get_or, ℤ, pos, ◌+ℤ◌, ◌≤ℤ◌, refl}
use Rattle.std.proofs.Common.{sym, ◌∙◌, ap, subst, arith, eqb}
use Rattle.std.proofs.lemmas.Bool.{and_parts, and_from, leb-true, le-leb, cond-true, cond-false, eq-eqb, ne_eqb}
use Rattle.std.proofs.lemmas.Int.{ints}
use Rattle.auction_model.specs.Package.{is_within, less, together}
use Rattle.auction_model.specs.Place.{left_at, place_of, states_of}
use Rattle.auction_model.specs.Market.{sum_after}
use Rattle.auction_model.specs.Menu.{Menu, fits_after, is_known_after, packages_after, without}
use Rattle.auction_model.specs.Table.{IsEntry}
use Rattle.auction_model.proofs.ChoiceLaws.{known-length}
use Rattle.auction_model.proofs.DominatedLaws.{less-within}
use Rattle.auction_model.proofs.PackageLaws.{within-together}
use Rattle.auction_model.proofs.PlaceLaws.{last-place, left_at-less, left_at-whole, left_at-within, place-less_below, place_of-left_at, place_of-less}
use Rattle.auction_model.proofs.PlaceLaws.{states-positive, within-within}
use Rattle.value_table.specs.SideValues.{IsGreatestPair}
use Rattle.value_table.specs.Turned.{in_order, worths_in_order}
use Rattle.value_table.proofs.TurnLaws.{onto, Parted, parted, sum-parts, known-parts, taken-parts, turned-length}

-- the place of what the package of a place leaves of the whole supply
pub left_at-other : (supply : List ℕ) (s : ℕ) → s < states_of supply → left_at supply (states_of supply - 1 - s) ≡ less supply (left_at supply s)
left_at-other supply s h =
    let S = states_of supply in
    let rest = less supply (left_at supply s) in
    let place : place_of supply rest ≡ S - 1 - s = omega (
      arith,
      place_of-less supply (left_at supply s) supply (left_at-within supply s h),
      last-place supply,
      place_of-left_at supply s h,
    ) in
    let same : left_at supply (place_of supply rest) ≡ rest = rw left_at-whole at (left_at-less supply (left_at supply s) (S - 1)
    (omega (arith, states-positive supply))) in
    ap (left_at supply) (sym place) ∙ same

-- a package is within what the rest leaves
pub within-twice : (p l : List ℕ) → IsTrue (is_within p l) → IsTrue (is_within p (less l (less l p)))
within-twice [] l h = refl
within-twice (a ∷ p) [] h = h
within-twice (a ∷ p) (b ∷ l) h =
    let t = and_parts (nat_le a b) (is_within p l) h in
    and_from (nat_le a (b - (b - a))) (is_within p (less l (less l p))) (le-leb a (b - (b - a)) (omega (arith, leb-true a b t.0))) (within-twice p l t.1)

-- two choices of both sides of a bidder, each within its part of the supply
pub record Pair (m : Menu) (supply : List ℕ) (k : ℕ) (front back : List ℕ) : Type 0 where
  pub place : ℕ
  pub below : place < states_of supply
  pub before : IsTrue (fits_after (in_order true m) (m.bidders - k) (left_at supply place) front)
  pub after : IsTrue (fits_after (without m (suc k)) (suc k) (left_at supply (states_of supply - 1 - place)) back)

module _ (m : Menu) (counts : ℕ → ℕ → ℤ) (supply : List ℕ) (k : ℕ) (inside : suc k ≤ m.bidders) (empty : m.lots (suc k) 0 ≡ [])
    (none : counts (suc k) 0 ≡ pos 0) where
  -- the bidders up to k have the bids of all
  near : (j : ℕ) → j ≤ k → (without m (suc k)).bids j ≡ m.bids j
  near j h = cond-false (eqb j (suc k)) 0 (m.bids j) (ne_eqb j (suc k) (omega (arith, h)))

  -- the bidder after them has none
  skipped : (without m (suc k)).bids (suc k) ≡ 0
  skipped = cond-true (eqb (suc k) (suc k)) 0 (m.bids (suc k)) (eq-eqb (suc k) (suc k) refl)

  -- they are bidders
  low : k ≤ m.bidders
  low = omega (arith, inside)

  -- the bidder without bids counts nothing
  pair-sum : (front back : List ℕ) → length front ≡ k → sum_after counts 0 (onto front (0 ∷ back)) ≡ sum_after (worths_in_order true m.bidders counts)
      (m.bidders - k) front +ℤ sum_after counts (suc k) back
  pair-sum front back count = omega (arith, ints, none, sum-parts m.bidders counts k front (0 ∷ back) low count)

  -- and takes nothing
  pair-taken : (front back : List ℕ) → length front ≡ k → packages_after (without m (suc k)) 0 (onto front (0 ∷ back)) ≡ together
      (packages_after (in_order true m) (m.bidders - k) front) (packages_after (without m (suc k)) (suc k) back)
  pair-taken front back count =
      taken-parts m (without m (suc k)).bids k low near front (0 ∷ back) count
      ∙ ap (λ p. together (packages_after (in_order true m) (m.bidders - k) front) (together p (packages_after (without m (suc k)) (suc k) back))) empty

  -- two choices of both sides, each within its part of the supply
  pair-fits : (s : ℕ) (front back : List ℕ) → s < states_of supply → length front ≡ k
      → IsTrue (fits_after (in_order true m) (m.bidders - k) (left_at supply s) front)
      → IsTrue (fits_after (without m (suc k)) (suc k) (left_at supply (states_of supply - 1 - s)) back)
      → IsTrue (fits_after (without m (suc k)) 0 supply (onto front (0 ∷ back)))
  pair-fits s front back h count t u =
      let o = without m (suc k) in
      let P = packages_after (in_order true m) (m.bidders - k) front in
      let Q = packages_after o (suc k) back in
      let left = left_at supply s in
      let p = and_parts (is_known_after (in_order true m) (m.bidders - k) front) (is_within P left) t in
      let q = and_parts (is_known_after o (suc k) back) (is_within Q (left_at supply (states_of supply - 1 - s))) u in
      let rest : IsTrue (is_known_after o k (0 ∷ back)) = and_from (nat_le 0 (o.bids (suc k))) (is_known_after o (suc k) back)
      (le-leb 0 (o.bids (suc k)) (omega arith)) q.0 in
      let known : IsTrue (is_known_after o 0 (onto front (0 ∷ back))) = known-parts m o.bids k low near front (0 ∷ back) count
      ∙ and_from (is_known_after (in_order true m) (m.bidders - k) front) (is_known_after o k (0 ∷ back)) p.0 rest in
      let other : IsTrue (is_within Q (less supply left)) = ap (is_within Q) (sym (left_at-other supply s h)) ∙ q.1 in
      let both : IsTrue (is_within (together P Q) supply) = within-together P Q supply ∙ and_from (is_within P supply) (is_within Q (less supply P))
      (within-within P left supply p.1 (left_at-within supply s h))
      (within-within Q (less supply left) (less supply P) other (less-within supply left P p.1)) in
      and_from (is_known_after o 0 (onto front (0 ∷ back))) (is_within (packages_after o 0 (onto front (0 ∷ back))) supply) known
      (ap (λ p. is_within p supply) (pair-taken front back count) ∙ both)

  -- a choice without the bidder is such a pair
  pair-of : (front back : List ℕ) → length front ≡ k → IsTrue (fits_after (without m (suc k)) 0 supply (onto front (0 ∷ back))) → Pair m supply k front back
  pair-of front back count t =
      let o = without m (suc k) in
      let S = states_of supply in
      let P = packages_after (in_order true m) (m.bidders - k) front in
      let Q = packages_after o (suc k) back in
      let p = and_parts (is_known_after o 0 (onto front (0 ∷ back))) (is_within (packages_after o 0 (onto front (0 ∷ back))) supply) t in
      let known = and_parts (is_known_after (in_order true m) (m.bidders - k) front) (is_known_after o k (0 ∷ back))
      (sym (known-parts m o.bids k low near front (0 ∷ back) count) ∙ p.0) in
      let rest = and_parts (nat_le 0 (o.bids (suc k))) (is_known_after o (suc k) back) known.1 in
      let within = and_parts (is_within P supply) (is_within Q (less supply P)) (sym (within-together P Q supply)
      ∙ ap (λ q. is_within q supply) (sym (pair-taken front back count)) ∙ p.1) in
      let left = less supply P in
      let r = place_of supply left in
      let last : S - 1 < S = omega (arith, states-positive supply) in
      let below : r < S = rw left_at-whole at (place-less_below supply P (S - 1) last) in
      let left_is : left_at supply r ≡ left = rw left_at-whole at (left_at-less supply P (S - 1) last) in
      let back_again : S - 1 - (S - 1 - r) ≡ r = omega (arith, below) in
      let twice : left_at supply (S - 1 - r) ≡ less supply left = left_at-other supply r below ∙ ap (less supply) left_is in
      record {
        place = S - 1 - r;
        below = omega (arith, last);
        before = and_from (is_known_after (in_order true m) (m.bidders - k) front) (is_within P (left_at supply (S - 1 - r))) known.0
            (ap (is_within P) twice ∙ within-twice P supply within.0);
        after = and_from (is_known_after o (suc k) back) (is_within Q (left_at supply (S - 1 - (S - 1 - r)))) rest.1
            (ap (λ n. is_within Q (left_at supply n)) back_again ∙ ap (is_within Q) left_is ∙ within.1);
      }

  -- the number of the bidder without bids is 0
  first-none : (i : ℕ) (front back : List ℕ) → length front ≡ k → IsTrue (fits_after (without m (suc k)) 0 supply (onto front (i ∷ back))) → i ≡ 0
  first-none i front back count t =
      let o = without m (suc k) in
      let p = and_parts (is_known_after o 0 (onto front (i ∷ back))) (is_within (packages_after o 0 (onto front (i ∷ back))) supply) t in
      let known = and_parts (is_known_after (in_order true m) (m.bidders - k) front) (is_known_after o k (i ∷ back))
      (sym (known-parts m o.bids k low near front (i ∷ back) count) ∙ p.0) in
      let rest = and_parts (nat_le i (o.bids (suc k))) (is_known_after o (suc k) back) known.1 in
      omega (arith, skipped, leb-true i (o.bids (suc k)) rest.0)

  module _ (before after : List ℤ) (lefts : (s : ℕ) → s < states_of supply → IsEntry (in_order true m) (worths_in_order true m.bidders counts) (m.bidders - k)
      (left_at supply s) (get_or before s (pos 0))) (rights : (s : ℕ) → s < states_of supply → IsEntry (without m (suc k)) counts (suc k) (left_at supply s)
      (get_or after s (pos 0))) where
    -- so it counts no more than the greatest pair
    pair-bound : (most : ℤ) → IsGreatestPair (states_of supply) before after most → (front back : List ℕ) → length front ≡ k
        → IsTrue (fits_after (without m (suc k)) 0 supply (onto front (0 ∷ back))) → sum_after counts 0 (onto front (0 ∷ back)) ≤ℤ most
    pair-bound most g front back count t =
        let p = pair-of front back count t in
        let S = states_of supply in
        let own = (lefts p.place p.below).bound front p.before in
        let rest = (rights (S - 1 - p.place) (omega (arith, p.below))).bound back p.after in
        omega (arith, ints, pair-sum front back count, own, rest, g.bound p.place p.below)

    -- whatever its number for the bidder
    choice-bound : (most : ℤ) → IsGreatestPair (states_of supply) before after most → (front back : List ℕ) → length front ≡ k
        → IsTrue (fits_after (without m (suc k)) 0 supply (onto front back)) → sum_after counts 0 (onto front back) ≤ℤ most
    choice-bound most g front [] count t =
        let o = without m (suc k) in
        let p = and_parts (is_known_after o 0 (onto front [])) (is_within (packages_after o 0 (onto front [])) supply) t in
        let known = and_parts (is_known_after (in_order true m) (m.bidders - k) front) (is_known_after o k [])
        (sym (known-parts m o.bids k low near front [] count) ∙ p.0) in
        absurd (omega (arith, inside, known-length o k [] known.1))
    choice-bound most g front (i ∷ back) count t =
        let zeroth = first-none i front back count t in
        let at : IsTrue (fits_after (without m (suc k)) 0 supply (onto front (0 ∷ back))) =
        subst (λ h. IsTrue (fits_after (without m (suc k)) 0 supply (onto front (h ∷ back)))) zeroth t in
        subst (λ h. sum_after counts 0 (onto front (h ∷ back)) ≤ℤ most) (sym zeroth) (pair-bound most g front back count at)

    -- and however it is taken apart
    parted-bound : (most : ℤ) → IsGreatestPair (states_of supply) before after most → (c : List ℕ) → Parted c k
        → IsTrue (fits_after (without m (suc k)) 0 supply c) → sum_after counts 0 c ≤ℤ most
    parted-bound most g c p t =
        let at : IsTrue (fits_after (without m (suc k)) 0 supply (onto p.front p.back)) = ap (fits_after (without m (suc k)) 0 supply) p.whole ∙ t in
        subst (λ d. sum_after counts 0 d ≤ℤ most) p.whole (choice-bound most g p.front p.back p.count at)

    -- the greatest pair is reached by a choice
    pair-reached : (most : ℤ) (s : ℕ) → s < states_of supply → most ≡ get_or before s (pos 0) +ℤ get_or after (states_of supply - 1 - s) (pos 0)
        → (c : List ℕ) × IsTrue (fits_after (without m (suc k)) 0 supply c) × (sum_after counts 0 c ≡ most)
    pair-reached most s h is =
        let e = lefts s h in
        let f = rights (states_of supply - 1 - s) (omega (arith, h)) in
        let front = e.reached.0 in
        let back = f.reached.0 in
        let known = and_parts (is_known_after (in_order true m) (m.bidders - k) front)
        (is_within (packages_after (in_order true m) (m.bidders - k) front) (left_at supply s)) e.reached.1 in
        let count = turned-length m k front low known.0 in (
          onto front (0 ∷ back),
          pair-fits s front back h count e.reached.1 f.reached.1,
          omega (arith, ints, pair-sum front back count, e.reached.2, f.reached.2, is),
        )

    -- the greatest sum over all places is the greatest without the bidder
    pub greatest-pair : (most : ℤ) → IsGreatestPair (states_of supply) before after most → IsEntry (without m (suc k)) counts 0 supply most
    greatest-pair most g = record {
      reached = pair-reached most g.reached.0 g.reached.1 g.reached.2;
      bound = λ c t.
          let own = and_parts (is_known_after (without m (suc k)) 0 c) (is_within (packages_after (without m (suc k)) 0 c) supply) t in
          parted-bound most g c (parted c k (omega (arith, low, known-length (without m (suc k)) 0 c own.0))) t;
    }
