-- No bid that comes before the winner's number reaches the value, together with the exact table's entry for what it leaves:
-- it would be an earlier choice.
use Rattle.std.specs.Prelude.{◌≡◌, ℕ, zero, suc, ◌-◌, ◌≤◌, ◌<◌, ◌&&◌, nat_le, IsTrue, List, [], ◌∷◌, ◌++◌, length, take, drop, slice_index, ℤ, ◌+ℤ◌, refl}
use Rattle.std.proofs.Common.{sym, ◌∙◌, ap, subst, arith}
use Rattle.std.proofs.lemmas.Bool.{and_from, and_parts, le-leb, leb-true}
use Rattle.std.proofs.lemmas.Int.{ints}
use Rattle.auction_model.specs.Greatest.{IsFirstGreatest}
use Rattle.auction_model.specs.Market.{is_earlier, number_of, sum_after}
use Rattle.auction_model.specs.Menu.{Menu, fits_after}
use Rattle.auction_model.specs.Package.{is_within, less}
use Rattle.auction_model.specs.Place.{left_at, place_of, states_of}
use Rattle.auction_model.specs.Table.{IsEntry, IsExactTable, entry_at}
use Rattle.auction_model.proofs.BookMarket.{fits-known}
use Rattle.auction_model.proofs.ChoiceLaws.{known-length}
use Rattle.auction_model.proofs.MenuLaws.{fits-cons}
use Rattle.auction_model.proofs.PlaceLaws.{left_at-less, left_at-whole, place-less_below, states-positive}
use Rattle.auction_model.proofs.OrderLaws.{earlier-number, earlier-rest}
use Rattle.cert_soundness.specs.Tests.{NoEarlier, left_after, worth_before}

split-here : (z : List ℕ) (k : ℕ) → k < length z → drop k z ≡ slice_index z k ∷ drop (suc k) z
split-here [] k lt = absurd (omega arith)
split-here (x ∷ z) zero lt = refl
split-here (x ∷ z) (suc k) lt = split-here z k (omega arith)

split-at : (z : List ℕ) (k : ℕ) → k < length z → drop k z ≡ number_of z (suc k) ∷ drop (suc k) z
split-at z k lt = let same : k ≡ suc k - 1 = omega arith in split-here z k lt ∙ ap (λ (n : ℕ). slice_index z n ∷ drop (suc k) z) same

joined-here : (z t : List ℕ) (k : ℕ) → k < length z → take (suc k) z ++ t ≡ take k z ++ slice_index z k ∷ t
joined-here [] t k lt = absurd (omega arith)
joined-here (x ∷ z) t zero lt = refl
joined-here (x ∷ z) t (suc k) lt = ap (λ (l : List ℕ). x ∷ l) (joined-here z t k (omega arith))

joined-at : (z t : List ℕ) (k : ℕ) → k < length z → take (suc k) z ++ t ≡ take k z ++ number_of z (suc k) ∷ t
joined-at z t k lt = let same : k ≡ suc k - 1 = omega arith in joined-here z t k lt ∙ ap (λ (n : ℕ). take k z ++ slice_index z n ∷ t) same

module _ (m : Menu) (worth : ℕ → ℕ → ℤ) (supply z : List ℕ) (fits : IsTrue (fits_after m 0 supply z)) where
  long : length z ≡ m.bidders
  long = omega (arith, known-length m 0 z (fits-known m supply z fits))

  -- a bid that fits, and a choice of the others that fits what it leaves
  pub cons-fits : (k i : ℕ) (left t : List ℕ) → i ≤ m.bids (suc k) → IsTrue (is_within (m.lots (suc k) i) left)
      → IsTrue (fits_after m (suc k) (less left (m.lots (suc k) i)) t) → IsTrue (fits_after m k left (i ∷ t))
  cons-fits k i left t known own rest =
      fits-cons m k left i t
      ∙ and_from (nat_le i (m.bids (suc k))) (is_within (m.lots (suc k) i) left && fits_after m (suc k) (less left (m.lots (suc k) i)) t)
      (le-leb i (m.bids (suc k)) known)
      (and_from (is_within (m.lots (suc k) i) left) (fits_after m (suc k) (less left (m.lots (suc k) i)) t) own rest)

  record Own (k : ℕ) : Type 0 where
    -- the number of bidder k + 1 is that of one of its bids, or 0
    pub known : number_of z (suc k) ≤ m.bids (suc k)
    -- its package is within what the first k bidders leave
    pub within : IsTrue (is_within (m.lots (suc k) (number_of z (suc k))) (left_after m supply z k))
    -- the numbers after it fit what it leaves
    pub rest : IsTrue (fits_after m (suc k) (left_after m supply z (suc k)) (drop (suc k) z))

  own-from : (k : ℕ) → k < length z → IsTrue (fits_after m k (left_after m supply z k) (drop k z)) → Own k
  own-from k lt f =
      let n = number_of z (suc k) in
      let left = left_after m supply z k in
      let g : IsTrue (fits_after m k left (n ∷ drop (suc k) z)) = subst (λ (l : List ℕ). IsTrue (fits_after m k left l)) (split-at z k lt) f in
      let p = and_parts (nat_le n (m.bids (suc k))) (is_within (m.lots (suc k) n) left && fits_after m (suc k) (less left (m.lots (suc k) n))
      (drop (suc k) z)) (sym (fits-cons m k left n (drop (suc k) z)) ∙ g) in
      let q = and_parts (is_within (m.lots (suc k) n) left) (fits_after m (suc k) (less left (m.lots (suc k) n)) (drop (suc k) z)) p.1 in
      record { known = leb-true n (m.bids (suc k)) p.0; within = q.0; rest = q.1 }

  rest-fits : (k : ℕ) → k ≤ length z → IsTrue (fits_after m k (left_after m supply z k) (drop k z))
  rest-fits zero le = fits
  rest-fits (suc k) le = (own-from k (omega (arith, le)) (rest-fits k (omega (arith, le)))).rest

  -- z with other numbers for the bidders after k
  record Swapped (k : ℕ) (t : List ℕ) : Type 0 where
    -- the changed choice fits
    pub fits_too : IsTrue (fits_after m 0 supply (take k z ++ t))
    -- its sum is what the first k numbers of z are worth and what the others are
    pub sum_is : sum_after worth 0 (take k z ++ t) ≡ worth_before worth z k +ℤ sum_after worth k t
    -- if the others come earlier than those of z, so does the choice
    pub earlier : IsTrue (is_earlier t (drop k z)) → IsTrue (is_earlier (take k z ++ t) z)

  swapped : (k : ℕ) → k ≤ length z → (t : List ℕ) → IsTrue (fits_after m k (left_after m supply z k) t) → Swapped k t
  swapped zero le t f = record { fits_too = f; sum_is = omega (arith, ints); earlier = λ e. e }
  swapped (suc k) le t f =
      let lt : k < length z = omega (arith, le) in
      let n = number_of z (suc k) in
      let own = own-from k lt (rest-fits k (omega (arith, le))) in
      let g = swapped k (omega (arith, le)) (n ∷ t) (cons-fits k n (left_after m supply z k) t own.known own.within f) in
      let j = joined-at z t k lt in
      record {
        fits_too = subst (λ (l : List ℕ). IsTrue (fits_after m 0 supply l)) (sym j) g.fits_too;
        sum_is = ap (sum_after worth 0) j ∙ g.sum_is ∙ omega (arith, ints);
        earlier = λ e. subst (λ (l : List ℕ). IsTrue (is_earlier l z)) (sym j) (g.earlier
            (subst (λ (l : List ℕ). IsTrue (is_earlier (n ∷ t) l)) (sym (split-at z k lt)) (earlier-rest n t (drop (suc k) z) e)));
      }

  -- what the first bidders leave has a place
  record Stand (k : ℕ) : Type 0 where
    -- the place of what they leave
    pub place : ℕ
    -- it is one of the supply
    pub inside : place < states_of supply
    -- what the first k bidders leave is what is left there
    pub left : left_after m supply z k ≡ left_at supply place

  stand : (k : ℕ) → Stand k
  stand zero = record { place = states_of supply - 1; inside = omega (arith, states-positive supply); left = sym (left_at-whole supply) }
  stand (suc k) =
      let before = stand k in
      let lots = m.lots (suc k) (number_of z (suc k)) in
      record {
        place = place_of supply (less (left_at supply before.place) lots);
        inside = place-less_below supply lots before.place before.inside;
        left = ap (λ (l : List ℕ). less l lots) before.left ∙ sym (left_at-less supply lots before.place before.inside);
      }

  module _ (table : List (List ℤ)) (exact : IsExactTable m worth supply table) (first : IsFirstGreatest (fits_after m 0 supply) (sum_after worth 0) z) where
    -- so no bid that comes before the number of a bidder reaches the value
    pub none-earlier : (value : ℤ) → value ≡ sum_after worth 0 z → (k : ℕ) → k < m.bidders → NoEarlier m worth supply table z value k
    none-earlier value is k lt i before known own =
        let inside : k < length z = omega (arith, lt, long) in
        let n = number_of z (suc k) in
        let here = stand k in
        let lots = m.lots (suc k) i in
        let left = left_after m supply z k in
        let place = place_of supply (less left lots) in
        let same : place ≡ place_of supply (less (left_at supply here.place) lots) = ap (λ (l : List ℕ). place_of supply (less l lots)) here.left in
        let there : place < states_of supply = omega (arith, same, place-less_below supply lots here.place here.inside) in
        let back : left_at supply place ≡ less left lots = ap (left_at supply) same ∙ left_at-less supply lots here.place here.inside
        ∙ ap (λ (l : List ℕ). less l lots) (sym here.left) in
        let entry : IsEntry m worth (suc k) (left_at supply place) (entry_at table (suc k) place) = (exact.exact (suc k) (omega (arith, lt))).exact place
        there in
        let d = entry.reached.0 in
        let rest : IsTrue (fits_after m (suc k) (less left lots) d) = subst (λ (l : List ℕ). IsTrue (fits_after m (suc k) l d)) back entry.reached.1 in
        let other = swapped k (omega (arith, inside)) (i ∷ d) (cons-fits k i left d known own rest) in
        let early = other.earlier (subst (λ (l : List ℕ). IsTrue (is_earlier (i ∷ d) l)) (sym (split-at z k inside))
        (earlier-number i n d (drop (suc k) z) before)) in
        let smaller = first.first (take k z ++ i ∷ d) other.fits_too early in
        let sum = other.sum_is in
        let reached = entry.reached.2 in
        omega (arith, ints, smaller, sum, reached, is)
