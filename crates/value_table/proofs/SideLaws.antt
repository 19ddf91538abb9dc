-- What the sides of a book say: their lines are exact, no number of them is large, and pairs of them give the value without a bidder.
use Rattle.std.specs.Prelude.{◌≡◌, ℕ, zero, suc, ◌-◌, ◌^◌, ◌≤◌, ◌<◌, true, List, [], length, get_or, ℤ, pos, unsigned_abs, refl, ◌==◌}
use Rattle.std.proofs.Common.{sym, ◌∙◌, arith}
use Rattle.std.proofs.lemmas.Bool.{cond_both}
use Rattle.auction_model.specs.Book.{Book, bids_of, market_of, menu_of, net_of}
use Rattle.auction_model.specs.Greatest.{IsGreatestValue}
use Rattle.auction_model.specs.Lowered.{lowered}
use Rattle.auction_model.specs.Market.{sum_after, value_of}
use Rattle.auction_model.specs.Menu.{Menu, fits_after, without}
use Rattle.auction_model.specs.Place.{left_at, states_of}
use Rattle.auction_model.specs.Prices.{allowed_without}
use Rattle.auction_model.specs.Table.{IsEntry, IsExactTable, IsLine}
use Rattle.auction_model.proofs.BoundLaws.{line-sizes}
use Rattle.auction_model.proofs.PlainLaws.{fits-without_none, spread-plain, sum-plain, sum_to-at_most}
use Rattle.auction_model.proofs.PlaceLaws.{states-positive}
use Rattle.auction_model.proofs.SkipLaws.{entry-skip, line-past_skip}
use Rattle.auction_model.proofs.TableLaws.{IsGreatestValue-same}
use Rattle.bid_book.specs.Kept.{IsBidBook}
use Rattle.value_table.specs.SideValues.{SidesValue, AreSidesOf, AreFullLines, AreFullSides, IsGreatestPair, IsLeftEntry, IsRightEntry}
use Rattle.value_table.specs.TableValue.{TableValue, IsTableOf, IsPlain}
use Rattle.value_table.specs.Turned.{bidder_at, in_order, worths_in_order, IsOrderInRange}
use Rattle.value_table.proofs.LeftLaws.{left-entry}
use Rattle.value_table.proofs.PairLaws.{greatest-pair}
use Rattle.value_table.proofs.Plain.{net-small}

-- with den 1 and no surplus an entry is one of the plain worths
entry-worths : (m : Menu) (worth : ℕ → ℕ → ℤ) (surplus : List ℤ) (k : ℕ) (left : List ℕ) (most : ℤ) → ((j : ℕ) → worth j 0 ≡ pos 0)
    → ((k : ℕ) → get_or surplus k (pos 0) ≡ pos 0) → IsEntry m (lowered (pos 1) worth surplus) k left most → IsEntry m worth k left most
entry-worths m worth surplus k left most none zeros e =
    let same : (c : List ℕ) → sum_after (lowered (pos 1) worth surplus) k c ≡ sum_after worth k c = λ c. sum-plain worth surplus k c none
    (λ j. zeros (j - 1)) in
    record {
      reached = (e.reached.0, e.reached.1, sym (same e.reached.0) ∙ e.reached.2);
      bound = λ c t. rw (← same c) (e.bound c t);
    }

-- and with nobody left out one of all bids
entry-all_bids : (m : Menu) (worth : ℕ → ℕ → ℤ) (k : ℕ) (left : List ℕ) (most : ℤ) → IsEntry (without m 0) worth k left most → IsEntry m worth k left most
entry-all_bids m worth k left most e = IsGreatestValue-same (fits_after (without m 0) k left) (fits_after m k left) (sum_after worth k) most
    (λ c. fits-without_none m k left c) e

-- so a line of all bids is one of the plain worths
pub line-plain : (m : Menu) (worth : ℕ → ℕ → ℤ) (surplus : List ℤ) (supply : List ℕ) (k : ℕ) (line : List ℤ) → ((j : ℕ) → worth j 0 ≡ pos 0)
    → ((k : ℕ) → get_or surplus k (pos 0) ≡ pos 0) → IsLine (without m 0) (lowered (pos 1) worth surplus) supply k line → IsLine m worth supply k line
line-plain m worth surplus supply k line none zeros e = record {
  places = e.places;
  exact = λ s inside.
      let z = get_or line s (pos 0) in
      entry-all_bids m worth k (left_at supply s) z (entry-worths (without m 0) worth surplus k (left_at supply s) z none zeros (e.exact s inside));
}

-- and the table
pub table-plain : (m : Menu) (worth : ℕ → ℕ → ℤ) (surplus : List ℤ) (supply : List ℕ) (lines : List (List ℤ)) → ((j : ℕ) → worth j 0 ≡ pos 0)
    → ((k : ℕ) → get_or surplus k (pos 0) ≡ pos 0) → IsExactTable (without m 0) (lowered (pos 1) worth surplus) supply lines → IsExactTable m worth supply lines
table-plain m worth surplus supply lines none zeros table = record {
  lines = table.lines;
  exact = λ k h. line-plain m worth surplus supply k (get_or lines k []) none zeros (table.exact k h);
}

-- the right side of a book
pub right-table : (book : Book) (t : TableValue) → IsTableOf book t → IsPlain t → IsExactTable (menu_of book) (net_of book) book.supply t.lines
right-table book t table plain =
    let exact : IsExactTable (without (menu_of book) 0) (lowered (pos 1) (net_of book) t.surplus) book.supply t.lines =
    rw (plain.skip, plain.den) at table.exact in
    table-plain (menu_of book) (net_of book) t.surplus book.supply t.lines (λ j. refl) plain.zeros exact

-- plain sums stay in the range, with the bidders turned round too
pub turned-range : (book : Book) (surplus : List ℤ) → IsBidBook book → ((k : ℕ) → get_or surplus k (pos 0) ≡ pos 0) → IsOrderInRange true book 0 (pos 1) surplus
turned-range book surplus kept zeros =
    let n = length book.bidders in
    let seat : ℕ → ℕ = bidder_at true n in
    let bids = (without (in_order true (menu_of book)) 0).bids in
    let fewer : (j : ℕ) → bids j ≤ length (bids_of book (seat j)) = λ j. cond_both (j == 0) 0 (length (bids_of book (seat j)))
    (λ b. b ≤ length (bids_of book (seat j))) (λ _. omega arith) (λ _. omega arith) in
    let small : (j i : ℕ) → i ≤ bids j → unsigned_abs (net_of book (seat j) i) ≤ 2 ^ 42 = λ j i low. net-small book (seat j) i kept
    (omega (arith, low, fewer j)) in
    omega (arith, kept.bidders, spread-plain bids n (2 ^ 42) (worths_in_order true n (net_of book)) surplus small (λ j. zeros (j - 1)))

-- no number of an exact table of net amounts is large
pub full-lines : (m : Menu) (worth : ℕ → ℕ → ℤ) (supply : List ℕ) (lines : List (List ℤ)) → m.bidders ≤ 16
    → ((j i : ℕ) → i ≤ m.bids j → unsigned_abs (worth j i) ≤ 2 ^ 42) → IsExactTable m worth supply lines → AreFullLines m.bidders (states_of supply) lines
full-lines m worth supply lines few small table = record {
  count = omega (arith, table.lines);
  places = λ k h. (table.exact k h).places;
  sizes = λ k s h. omega (
    arith,
    few,
    sum_to-at_most (λ _. 2 ^ 42) m.bidders (2 ^ 42) (λ _. omega arith),
    line-sizes m worth supply k (get_or lines k []) (λ _. 2 ^ 42) small (table.exact k h) s,
  );
}

-- so both sides have full lines
pub full-sides : (book : Book) (sides : SidesValue) → IsBidBook book → AreSidesOf book sides → AreFullSides sides
full-sides book sides kept own =
    let turned : (j i : ℕ) → i ≤ (in_order true (menu_of book)).bids j → unsigned_abs (worths_in_order true (length book.bidders) (net_of book) j i) ≤ 2 ^
    42 = λ j i known. net-small book (bidder_at true (length book.bidders) j) i kept known in
    let right = full-lines (menu_of book) (net_of book) book.supply sides.right.lines kept.bidders (λ j i known. net-small book j i kept known)
    (right-table book sides.right own.right own.plain) in
    let left = full-lines (in_order true (menu_of book)) (worths_in_order true (length book.bidders) (net_of book)) book.supply sides.left kept.bidders turned
    own.left in
    record {
      states = rw own.states (states-positive book.supply);
      right = rw (own.bidders, own.states) right;
      left = rw (own.bidders, own.states) left;
    }

module _ (book : Book) (sides : SidesValue) (own : AreSidesOf book sides) where
  -- an entry of the right side
  pub right-is : (k s : ℕ) → k ≤ sides.bidders → s < sides.states → IsRightEntry book k (left_at book.supply s)
      (get_or (get_or sides.right.lines k []) s (pos 0))
  right-is k s h inside =
      let table = right-table book sides.right own.right own.plain in
      (table.exact k (omega (arith, h, own.bidders))).exact s (omega (arith, inside, own.states))

  -- an entry of the turned table
  turned-entry : (k s : ℕ) → k ≤ sides.bidders → s < states_of book.supply → IsEntry (in_order true (menu_of book))
      (worths_in_order true (length book.bidders) (net_of book)) (length book.bidders - k) (left_at book.supply s)
      (get_or (get_or sides.left (sides.bidders - k) []) s (pos 0))
  turned-entry k s h inside =
      let line : IsLine (in_order true (menu_of book)) (worths_in_order true (length book.bidders) (net_of book)) book.supply (length book.bidders - k)
      (get_or sides.left (length book.bidders - k) []) = own.left.exact (length book.bidders - k) (omega arith) in
      rw own.bidders (line.exact s inside)

  -- an entry of the left side
  pub left-is : (k s : ℕ) → k ≤ sides.bidders → s < sides.states → IsLeftEntry book k (left_at book.supply s)
      (get_or (get_or sides.left (sides.bidders - k) []) s (pos 0))
  left-is k s h inside =
      left-entry (menu_of book) (net_of book) k (left_at book.supply s) (omega (arith, h, own.bidders)) (λ j. refl) (λ j. refl)
      (get_or (get_or sides.left (sides.bidders - k) []) s (pos 0))
      (turned-entry k s h (omega (arith, inside, own.states)))

  -- an entry of the bidders after j, of whom j is none
  rights : (j s : ℕ) → j ≤ sides.bidders → s < states_of book.supply → IsEntry (without (menu_of book) j) (net_of book) j (left_at book.supply s)
      (get_or (get_or sides.right.lines j []) s (pos 0))
  rights j s h inside =
      let t = sides.right in
      let counts = lowered (pos 1) (net_of book) t.surplus in
      let line = get_or t.lines j [] in
      let exact : IsExactTable (without (menu_of book) 0) counts book.supply t.lines = rw (own.plain.skip, own.plain.den) at own.right.exact in
      let past : IsLine (without (menu_of book) j) counts book.supply j line = line-past_skip (menu_of book) counts book.supply j j line (omega arith)
      (exact.exact j (omega (arith, h, own.bidders))) in
      entry-worths (without (menu_of book) j) (net_of book) t.surplus j (left_at book.supply s) (get_or line s (pos 0)) (λ i. refl) own.plain.zeros
      (past.exact s inside)

  -- the greatest pair of the line of the bidders before j and that of the bidders after it
  pub without-is : (j : ℕ) (most : ℤ) → 0 < j → j ≤ sides.bidders → IsGreatestPair (states_of book.supply) (get_or sides.left (sides.bidders - (j - 1)) [])
      (get_or sides.right.lines j []) most → IsGreatestValue (allowed_without (market_of book) j) (value_of (market_of book)) most
  without-is zero most some inside pair = absurd (omega (arith, some))
  without-is (suc k) most some inside pair =
      let before : sides.bidders - (suc k - 1) ≡ sides.bidders - k = omega arith in
      let at : IsGreatestPair (states_of book.supply) (get_or sides.left (sides.bidders - k) []) (get_or sides.right.lines (suc k) []) most =
      rw before at pair in
      entry-skip (menu_of book) (net_of book) book.supply (suc k) most some
      (greatest-pair (menu_of book) (net_of book) book.supply k (omega (arith, inside, own.bidders)) refl refl (get_or sides.left (sides.bidders - k) [])
      (get_or sides.right.lines (suc k) [])
      (λ s h. turned-entry k s (omega (arith, inside)) h) (λ s h. rights (suc k) s inside h) most at)
