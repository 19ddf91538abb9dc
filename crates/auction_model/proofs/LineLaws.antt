-- A line of the table, bid by bid.
use Rattle.std.specs.Prelude.{◌≡◌, ℕ, suc, ◌<◌, List, [], length, get_or, ℤ, pos, ◌+ℤ◌, ◌≤ℤ◌, ◌<ℤ◌}
use Rattle.std.specs.Int.{int_max}
use Rattle.std.proofs.Common.{inl, inr, ◌∙◌, arith}
use Rattle.std.proofs.lemmas.Bool.{cases_Bool, cond-true, cond-false}
use Rattle.std.proofs.lemmas.Int.{ints, by_lt_z, int_max_is}
use Rattle.auction_model.specs.Package.{is_within, less}
use Rattle.auction_model.specs.Place.{states_of, place_of, left_at}
use Rattle.auction_model.specs.Menu.{Menu}
use Rattle.auction_model.specs.Table.{IsEntry, IsLine}
use Rattle.auction_model.specs.Steps.{raised}
use Rattle.auction_model.proofs.TableLaws.{IsEntryUpTo, entry-none, entry-skips, entry-keeps, entry-takes, entry-all, entry-last}
use Rattle.auction_model.proofs.PlaceLaws.{left_at-less, place-less_below}

-- a line while only the first i bids of bidder k + 1 are counted
pub record IsLineUpTo (m : Menu) (counts : ℕ → ℕ → ℤ) (supply : List ℕ) (k i : ℕ) (line : List ℤ) : Type 0 where
  pub places : length line ≡ states_of supply
  pub exact : (s : ℕ) → s < states_of supply → IsEntryUpTo m counts k (left_at supply s) i (get_or line s (pos 0))

-- the greater of two numbers is the first, or the second
pub int_max-left : (a b : ℤ) → b ≤ℤ a → int_max a b ≡ a
int_max-left a b h = omega (arith, ints, int_max_is a b)

-- if the second number is at least the first, it is the greater one
pub int_max-right : (a b : ℤ) → a ≤ℤ b → int_max a b ≡ b
int_max-right a b h = omega (arith, ints, int_max_is a b)

lt-le : (a b : ℤ) → a <ℤ b → a ≤ℤ b
lt-le a b h = omega (arith, ints)

module _ (m : Menu) (counts : ℕ → ℕ → ℤ) (supply : List ℕ) (k : ℕ) where
  -- a 0 for each place is the line after the last bidder
  pub line-last : (line : List ℤ) → k ≡ m.bidders → length line ≡ states_of supply → ((s : ℕ) → s < states_of supply → get_or line s (pos 0) ≡ pos 0)
      → IsLine m counts supply k line
  line-last line last places zeros = record {
    places = places;
    exact = λ s h. rw (zeros s h, last) (entry-last m counts (left_at supply s));
  }

  -- line k + 1 plus what bidder k + 1 counts idle is line k with none of its bids counted
  pub line-none : (below line : List ℤ) (idle : ℤ) → idle ≡ counts (suc k) 0 → m.lots (suc k) 0 ≡ [] → IsLine m counts supply (suc k) below
      → length line ≡ length below → ((s : ℕ) → s < length below → get_or line s (pos 0) ≡ get_or below s (pos 0) +ℤ idle) → IsLineUpTo m counts supply k 0 line
  line-none below line idle is none e places reads = record {
    places = places ∙ e.places;
    exact = λ s h.
        let own : get_or line s (pos 0) ≡ get_or below s (pos 0) +ℤ idle = reads s (omega (arith, e.places)) in
        let turned : get_or line s (pos 0) ≡ counts (suc k) 0 +ℤ get_or below s (pos 0) = own ∙ rw is (omega (arith, ints)) in
        rw turned (entry-none m counts k (left_at supply s) (get_or below s (pos 0)) none (e.exact s h));
  }

  entry-raised : (i s : ℕ) (below : List ℤ) (old : ℤ) → s < states_of supply → IsLine m counts supply (suc k) below
      → IsEntryUpTo m counts k (left_at supply s) i old → IsEntryUpTo m counts k (left_at supply s) (suc i)
      (raised supply below (m.lots (suc k) (suc i)) (counts (suc k) (suc i)) s old)
  entry-raised i s below old h e was =
      let lots = m.lots (suc k) (suc i) in
      let left = left_at supply s in
      let rest = get_or below (place_of supply (less left lots)) (pos 0) in
      let sum = counts (suc k) (suc i) +ℤ rest in
      elim (cases_Bool (is_within lots left)) [
        | inl fits ↦
            let b : IsEntry m counts (suc k) (less left lots) rest = rw (left_at-less supply lots s h)
            at (e.exact (place_of supply (less left lots)) (place-less_below supply lots s h)) in
            rw (cond-true (is_within lots left) (int_max old sum) old fits)
            (by_lt_z old sum
            (λ lt. rw (int_max-right old sum (lt-le old sum lt)) (entry-takes m counts k left i old rest was b fits (lt-le old sum lt)))
            (λ ge. rw (int_max-left old sum ge) (entry-keeps m counts k left i old rest was b ge)))
        | inr misses ↦ rw (cond-false (is_within lots left) (int_max old sum) old misses) (entry-skips m counts k left i old was misses)
      ]

  -- a line raised at each place by bid i + 1 of bidder k + 1 counts one bid more
  pub line-more : (i : ℕ) (below old new : List ℤ) → IsLine m counts supply (suc k) below → IsLineUpTo m counts supply k i old → length new ≡ length old
      → ((s : ℕ) → s < length old → get_or new s (pos 0) ≡ raised supply below (m.lots (suc k) (suc i)) (counts (suc k) (suc i)) s (get_or old s (pos 0)))
      → IsLineUpTo m counts supply k (suc i) new
  line-more i below old new e was places reads = record {
    places = places ∙ was.places;
    exact = λ s h. rw (reads s (omega (arith, was.places))) (entry-raised i s below (get_or old s (pos 0)) h e (was.exact s h));
  }

  -- with all bids of bidder k + 1 counted the line is line k
  pub line-all : (line : List ℤ) → k < m.bidders → IsLineUpTo m counts supply k (m.bids (suc k)) line → IsLine m counts supply k line
  line-all line inside was = record {
    places = was.places;
    exact = λ s h. entry-all m counts k (left_at supply s) (get_or line s (pos 0)) inside (was.exact s h);
  }
