-- No number of the tables leaves the range.
use Rattle.std.specs.Prelude.{◌≡◌, ℕ, zero, suc, ◌+◌, ◌*◌, ◌^◌, ◌≤◌, ◌-◌, ◌<◌, IsTrue, List, [], length, get_or, replicate, ℤ, pos, ◌-ℤ◌, ◌*ℤ◌, ◌≤ℤ◌, unsigned_abs, refl}
use Rattle.std.proofs.Common.{arith, inl, inr}
use Rattle.std.proofs.lemmas.Bool.{and_from, cases_lt}
use Rattle.std.proofs.lemmas.Int.{ints}
use Rattle.std.proofs.lemmas.List.{get_or_past}
use Rattle.auction_model.specs.Market.{sum_after}
use Rattle.auction_model.specs.Menu.{fits_after, is_known_after, packages_after}
use Rattle.auction_model.specs.Package.{is_within}
use Rattle.auction_model.specs.Place.{left_at}
use Rattle.auction_model.proofs.BookMarket.{none-known, none-taken}
use Rattle.value_table.proofs.Needless.{idle-sign}
use Rattle.auction_model.specs.Lowered.{lowered, of_bidder}
use Rattle.auction_model.proofs.BoundLaws.{AreCapped, cap-in_sum, caps_of, line-sizes, lowered-capped, parts-capped}
use Rattle.value_table.specs.declared.lowered_bids.LoweredBids.{LoweredBids}
use Rattle.value_table.specs.Counted.{net_at, counted_bids, counted, IsCountedLine, IsWithin, IsLineWithin}

module _ (l : LoweredBids) where
  -- if all sums are below a number in size, so is each number of a line
  pub line-within : (most : ℕ) → IsWithin l most → (k : ℕ) (line : List ℤ) → IsCountedLine l k line → (s : ℕ) → unsigned_abs (get_or line s (pos 0)) ≤ most
  line-within most within k line e s =
      let caps = caps_of (counted_bids l).bids (net_at l) l.den l.surplus.now in
      let capped : AreCapped (counted_bids l) (counted l) caps = lowered-capped (counted_bids l).bids (net_at l) l.den l.surplus.now in
      omega (arith, within, line-sizes (counted_bids l) (counted l) l.book.now.supply k line caps capped e s)

  -- and the most that a bidder can count, by size
  pub caps-within : (most : ℕ) → IsWithin l most → (j : ℕ) → zero < j → j ≤ length l.book.now.bidders → caps_of (counted_bids l).bids (net_at l)
      l.den l.surplus.now j < most
  caps-within most within zero p q = absurd (omega arith)
  caps-within most within (suc k) p q = omega (
    arith,
    within,
    cap-in_sum (caps_of (counted_bids l).bids (net_at l) l.den l.surplus.now) k
        (length l.book.now.bidders) (omega arith),
  )

  -- and what a bid counts
  pub worth-within : (most : ℕ) → IsWithin l most → (j i : ℕ) → zero < j → j ≤ length l.book.now.bidders → i ≤ (counted_bids l).bids j →
      unsigned_abs (counted l j i) ≤ most
  worth-within most within j i p q known = omega (
    arith,
    caps-within most within j p q,
    lowered-capped (counted_bids l).bids (net_at l) l.den
        l.surplus.now j i known,
  )

  -- so a line and what the bidder before it counts are
  pub line-room : (most : ℕ) → IsWithin l most → (j : ℕ) (line : List ℤ) → zero < j → j ≤ length l.book.now.bidders → IsCountedLine l j line
      → IsLineWithin l most j line
  line-room most within j line p q e = record {
    numbers = line-within most within j line e;
    worths = λ i known. worth-within most within j i p q known;
  }

  -- no number of a line is above 2^120 in size
  pub line-small : (k : ℕ) (line : List ℤ) → IsCountedLine l k line → (s : ℕ) → unsigned_abs (get_or line s (pos 0)) ≤ 2 ^ 120
  line-small = line-within (2 ^ 120) l.range

  -- the most that a bidder can count, by size, is below 2^120
  pub caps-small : (j : ℕ) → zero < j → j ≤ length l.book.now.bidders → caps_of (counted_bids l).bids (net_at l) l.den l.surplus.now j < 2 ^ 120
  caps-small = caps-within (2 ^ 120) l.range

  -- no bid counts more than 2^120 in size
  pub worth-small : (j i : ℕ) → zero < j → j ≤ length l.book.now.bidders → i ≤ (counted_bids l).bids j → unsigned_abs (counted l j i) ≤ 2 ^ 120
  worth-small = worth-within (2 ^ 120) l.range

  -- den times a net amount and the surplus of its bidder, both by size, add up to at most 2^120
  pub parts-small : (j i : ℕ) → zero < j → j ≤ length l.book.now.bidders → zero < i → i ≤ (counted_bids l).bids j
      → unsigned_abs l.den * unsigned_abs (net_at l j i) + unsigned_abs (of_bidder l.surplus.now j) ≤ 2 ^ 120
  parts-small j zero p q r known = absurd (omega arith)
  parts-small j (suc i) p q r known = omega (arith, caps-small j p q, parts-capped (counted_bids l).bids (net_at l) l.den l.surplus.now j i known)

  -- no surplus is above 2^120 in size
  pub surplus-small : (j : ℕ) → zero < j → j ≤ length l.book.now.bidders → unsigned_abs (of_bidder l.surplus.now j) ≤ 2 ^ 120
  surplus-small j p q = omega (arith, caps-small j p q)

-- a bid counts den times its worth, less the surplus of its bidder
pub lowered-at : (den : ℤ) (worth : ℕ → ℕ → ℤ) (surplus : List ℤ) (j i : ℕ) → zero < i → lowered den worth surplus j i ≡
    (den *ℤ worth j i) -ℤ of_bidder surplus j
lowered-at den worth surplus j zero h = absurd (omega arith)
lowered-at den worth surplus j (suc i) h = refl

-- a choice in which nobody has a bid counts at least 0, if nobody counts less
none-least : (worth : ℕ → ℕ → ℤ) (k n : ℕ) → ((j : ℕ) → pos 0 ≤ℤ worth j 0) → pos 0 ≤ℤ sum_after worth k (replicate n 0)
none-least worth k zero least = omega (arith, ints)
none-least worth k (suc n) least = omega (arith, ints, least (suc k), none-least worth (suc k) n least)

-- so no number of a line is below 0
pub line-sign : (l : LoweredBids) (k : ℕ) (line : List ℤ) → k ≤ length l.book.now.bidders → IsCountedLine l k line → (s : ℕ) → pos 0 ≤ℤ get_or line s (pos 0)
line-sign l k line inside e s =
    let m = counted_bids l in
    let n = length l.book.now.bidders - k in
    let left = left_at l.book.now.supply s in
    elim (cases_lt s (length line)) [
      | inl low ↦
          let taken : packages_after m k (replicate n 0) ≡ [] = none-taken m k n (λ _. refl) in
          let within : IsTrue (is_within (packages_after m k (replicate n 0)) left) = rw taken refl in
          let fits : IsTrue (fits_after m k left (replicate n 0)) = and_from (is_known_after m k (replicate n 0))
          (is_within (packages_after m k (replicate n 0)) left) (none-known m k n (omega (arith, inside))) within in
          omega (arith, ints, none-least (counted l) k n (idle-sign l), (e.exact s (omega (arith, low, e.places))).bound (replicate n 0) fits)
      | inr past ↦ omega (arith, ints, get_or_past line s (pos 0) past)
    ]
