-- The lines of both sides of a book are lines of tables for worths over 1 with no surplus.
use Rattle.std.specs.Prelude.{◌≡◌, ℕ, zero, suc, ◌-◌, ◌≤◌, ◌<◌, Bool, true, false, List, [], ◌∷◌, length, get_or, replicate, take, ℤ, pos, ◌+ℤ◌, refl, ◌==◌}
use Rattle.std.proofs.Common.{sym, ◌∙◌, ap, arith}
use Rattle.std.proofs.lemmas.Bool.{cond-false, ne_eqb}
use Rattle.std.proofs.lemmas.Int.{ints}
use Rattle.auction_model.specs.Book.{Book, menu_of, net_of}
use Rattle.auction_model.specs.Lowered.{lowered}
use Rattle.auction_model.specs.Market.{sum_after}
use Rattle.auction_model.specs.Menu.{Menu, fits_after, without}
use Rattle.auction_model.specs.Package.{less}
use Rattle.auction_model.specs.Place.{left_at, place_of}
use Rattle.auction_model.specs.Steps.{IsFirstNumber, sum_with}
use Rattle.auction_model.specs.Table.{IsEntry, IsLine}
use Rattle.bid_book.specs.Kept.{IsBidBook}
use Rattle.auction_model.proofs.ListLaws.{zeros-at}
use Rattle.auction_model.proofs.PlainLaws.{fits-without_none, sum-plain}
use Rattle.auction_model.proofs.TableLaws.{IsGreatestValue-same}
use Rattle.value_table.specs.SideLines.{IsLeftLine}
use Rattle.value_table.specs.Turned.{in_order, worths_in_order, IsOrderInRange}
use Rattle.value_table.proofs.Plain.{plain-range}
use Rattle.value_table.proofs.SideLaws.{turned-range}
use Rattle.value_table.proofs.LeftLaws.{left-entry, turned-entry}

zeros-front : (xs : List ℤ) (n k : ℕ) → ((i : ℕ) → get_or xs i (pos 0) ≡ pos 0) → get_or (take n xs) k (pos 0) ≡ pos 0
zeros-front xs zero k all = refl
zeros-front [] (suc n) k all = refl
zeros-front (x ∷ xs) (suc n) zero all = all 0
zeros-front (x ∷ xs) (suc n) (suc k) all = zeros-front xs n k (λ i. all (suc i))

-- the first numbers of a list of zeros are 0
pub zeros-part : (m n k : ℕ) → get_or (take n (replicate m (pos 0))) k (pos 0) ≡ pos 0
zeros-part m n k = zeros-front (replicate m (pos 0)) n k (zeros-at m)

-- plain sums stay in the range, with the bidders as in the book or turned round
pub zeros-range : (book : Book) (turned : Bool) (surplus : List ℤ) → IsBidBook book → ((k : ℕ) → get_or surplus k (pos 0) ≡ pos 0)
    → IsOrderInRange turned book 0 (pos 1) surplus
zeros-range book true surplus kept zeros = turned-range book surplus kept zeros
zeros-range book false surplus kept zeros = plain-range book 0 surplus kept zeros

module _ (m : Menu) (worth : ℕ → ℕ → ℤ) (surplus : List ℤ) (none : (j : ℕ) → worth j 0 ≡ pos 0) (zeros : (k : ℕ) → get_or surplus k (pos 0) ≡ pos 0) where
  -- an entry of the plain worths, as one of a table with den 1, no surplus and nobody left out
  pub entry-lowered : (k : ℕ) (left : List ℕ) (most : ℤ) → IsEntry m worth k left most → IsEntry (without m 0) (lowered (pos 1) worth surplus) k left most
  entry-lowered k left most e =
      let same : (c : List ℕ) → sum_after (lowered (pos 1) worth surplus) k c ≡ sum_after worth k c =
      λ c. sum-plain worth surplus k c none (λ j. zeros (j - 1)) in
      let all : IsEntry (without m 0) worth k left most = IsGreatestValue-same (fits_after m k left) (fits_after (without m 0) k left)
      (sum_after worth k) most (λ c. sym (fits-without_none m k left c)) e in
      record {
        reached = (all.reached.0, all.reached.1, same all.reached.0 ∙ all.reached.2);
        bound = λ c t. rw (same c) (all.bound c t);
      }

  -- the same of a line
  pub line-lowered : (supply : List ℕ) (k : ℕ) (line : List ℤ) → IsLine m worth supply k line → IsLine (without m 0)
      (lowered (pos 1) worth surplus) supply k line
  line-lowered supply k line e = record {
    places = e.places;
    exact = λ s inside. entry-lowered k (left_at supply s) (get_or line s (pos 0)) (e.exact s inside);
  }

  -- each bid counts its worth
  worth-is : (j i : ℕ) → lowered (pos 1) worth surplus j i ≡ worth j i
  worth-is j zero = rw (zeros (j - 1), none j) refl
  worth-is j (suc i) = rw (zeros (j - 1)) (omega (arith, ints))

  -- and each bidder has its bids
  pub bids-all : (j : ℕ) → 0 < j → (without m 0).bids j ≡ m.bids j
  bids-all j some = cond-false (j == 0) 0 (m.bids j) (ne_eqb j 0 (λ e. absurd (omega (arith, e, some))))

  -- so the first number that reaches an entry is the same
  pub number-plain : (supply : List ℕ) (j s : ℕ) (here : ℤ) (below : List ℤ) (i : ℕ) → 0 < j → IsFirstNumber (without m 0)
      (lowered (pos 1) worth surplus) supply j s here below i → IsFirstNumber m worth supply j s here below i
  number-plain supply j s here below i some n =
      let same : (h : ℕ) → sum_with (without m 0) (lowered (pos 1) worth surplus) supply j s below h ≡ sum_with m worth supply j s below h =
      λ h. ap (λ (z : ℤ). z +ℤ get_or below (place_of supply (less (left_at supply s) (m.lots j h))) (pos 0)) (worth-is j h) in
      record {
        fits = n.fits;
        reaches = n.reaches ∙ same i;
        first = λ h before known own. rw (← same h) (n.first h before (omega (arith, known, bids-all j some)) own);
      }

module _ (book : Book) (k : ℕ) (line : List ℤ) (inside : k ≤ length book.bidders) where
  -- a line of the bidders up to k is one of the table with the bidders turned round
  pub line-turned : IsLeftLine book k line → IsLine (in_order true (menu_of book)) (worths_in_order true (length book.bidders) (net_of book)) book.supply
      (length book.bidders - k) line
  line-turned e = record {
    places = e.places;
    exact = λ s h. turned-entry (menu_of book) (net_of book) k (left_at book.supply s) inside (λ j. refl) (λ j. refl) (get_or line s (pos 0)) (e.exact s h);
  }

  -- and the other way round
  pub line-left : IsLine (in_order true (menu_of book)) (worths_in_order true (length book.bidders) (net_of book)) book.supply (length book.bidders - k) line
      → IsLeftLine book k line
  line-left e = record {
    places = e.places;
    exact = λ s h. left-entry (menu_of book) (net_of book) k (left_at book.supply s) inside (λ j. refl) (λ j. refl) (get_or line s (pos 0)) (e.exact s h);
  }
