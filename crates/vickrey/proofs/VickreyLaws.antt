-- Tables without a bidder give its Vickrey price and the first of the greatest choices without it.
use Rattle.std.specs.Prelude.{Bool, IsTrue, List, [], get_or, length, not, pos, refl, replicate, suc, take, unsigned_abs, zero, ℕ, ℤ, ◌++◌, ◌+ℤ◌, ◌+◌}
use Rattle.std.specs.Prelude.{◌-ℤ◌, ◌-◌, ◌<◌, ◌==◌, ◌^◌, ◌∷◌, ◌≡◌, ◌≢◌, ◌≤◌, ◌⊎◌}
use Rattle.std.specs.List.{AllByRecursion}
use Rattle.std.proofs.Common.{inl, inr, sym, ◌∙◌, ap, subst, arith, append-nil, length-append}
use Rattle.std.proofs.lemmas.Bool.{eq-eqb, false≢true, cases_eq, cases_lt}
use Rattle.std.proofs.lemmas.Int.{ints}
use Rattle.std.proofs.lemmas.List.{get_or_append_left, get_or_push}
use Rattle.auction_model.specs.Book.{Book, bids_of, market_of, menu_of, net_of}
use Rattle.auction_model.specs.Market.{number_of, sum_after, uses, value_of, worth_in}
use Rattle.auction_model.specs.Greatest.{IsFirstGreatest, IsGreatestValue, IsWinning}
use Rattle.auction_model.specs.Menu.{fits_after}
use Rattle.auction_model.specs.Lowered.{lowered}
use Rattle.auction_model.specs.Prices.{IsVickreyPrice, allowed_without}
use Rattle.auction_model.specs.Table.{IsEntry}
use Rattle.auction_model.proofs.BookMarket.{fits-known, winning-count}
use Rattle.auction_model.proofs.ChoiceLaws.{known-length, known-of}
use Rattle.auction_model.proofs.PlainLaws.{IsFirstGreatest-same, fits-without_none, sum-plain}
use Rattle.auction_model.proofs.SkipLaws.{entry-skip, first-skip}
use Rattle.auction_model.proofs.TableLaws.{IsGreatestValue-same}
use Rattle.choices.specs.Singles.{winners_after}
use Rattle.bid_book.specs.Kept.{IsBidBook}
use Rattle.value_table.proofs.Plain.{net-small}
use Rattle.value_table.proofs.SingleLaws.{greatest-is}
use Rattle.value_table.specs.BookTable.{menu_without, IsBookTable}
use Rattle.value_table.specs.TableValue.{TableValue, IsTableOf, IsPlainWithout}
use Rattle.vickrey.specs.VickreyValue.{IsTableWithout, AreTablesWithout}

IsGreatestValue-value : (p : List ℕ → Bool) (v w : List ℕ → ℤ) (most : ℤ) → ((c : List ℕ) → v c ≡ w c) → IsGreatestValue p v most → IsGreatestValue p w most
IsGreatestValue-value p v w most same e = record {
  reached = (e.reached.0, e.reached.1, sym (same e.reached.0) ∙ e.reached.2);
  bound = λ c t. rw (← same c) (e.bound c t);
}

module _ (book : Book) (surplus : List ℤ) (zeros : (k : ℕ) → get_or surplus k (pos 0) ≡ pos 0) where
  sum-same : (c : List ℕ) → sum_after (lowered (pos 1) (net_of book) surplus) 0 c ≡ value_of (market_of book) c
  sum-same c = sum-plain (net_of book) surplus 0 c (λ j. refl) (λ j. zeros (j - 1))

  -- the first entry of the table without bidder j is the greatest value of a choice without it
  pub greatest-without : (j : ℕ) (most : ℤ) → zero < j → IsEntry (menu_without book j) (lowered (pos 1) (net_of book) surplus) 0 book.supply most
      → IsGreatestValue (allowed_without (market_of book) j) (value_of (market_of book)) most
  greatest-without j most some e =
      IsGreatestValue-value (allowed_without (market_of book) j) (sum_after (lowered (pos 1) (net_of book) surplus) 0) (value_of (market_of book)) most sum-same
      (entry-skip (menu_of book) (lowered (pos 1) (net_of book) surplus) book.supply j most some e)

  -- the first entry of the table of all bids is the greatest value of a choice
  pub greatest-all : (most : ℤ) → IsEntry (menu_without book 0) (lowered (pos 1) (net_of book) surplus) 0 book.supply most
      → IsGreatestValue (market_of book).allowed (value_of (market_of book)) most
  greatest-all most e =
      IsGreatestValue-value (market_of book).allowed (sum_after (lowered (pos 1) (net_of book) surplus) 0) (value_of (market_of book)) most sum-same
      (IsGreatestValue-same (fits_after (menu_without book 0) 0 book.supply) (market_of book).allowed
      (sum_after (lowered (pos 1) (net_of book) surplus) 0) most (λ c. fits-without_none (menu_of book) 0 book.supply c) e)

  -- the first of the greatest choices of the bids without those of bidder j is that of the choices without it
  pub first-without : (j : ℕ) (c : List ℕ) → zero < j → IsFirstGreatest (fits_after (menu_without book j) 0 book.supply)
      (sum_after (lowered (pos 1) (net_of book) surplus) 0) c → IsFirstGreatest (allowed_without (market_of book) j) (value_of (market_of book)) c
  first-without j c some g =
      IsFirstGreatest-same (allowed_without (market_of book) j) (allowed_without (market_of book) j) (sum_after (lowered (pos 1) (net_of book) surplus) 0)
      (value_of (market_of book)) c (λ d. refl) sum-same
      (first-skip (menu_of book) (lowered (pos 1) (net_of book) surplus) book.supply j c some g)

-- a bidder that the choice uses has a number above 0
pub some-used : (z : List ℕ) (j : ℕ) → IsTrue (uses z j) → 0 < number_of z j
some-used z j used = by (cases_eq (number_of z j) 0)
  where
    unused : (n : ℕ) → n ≡ 0 → IsTrue (not (n == 0)) → ⊥
    unused n none t = false≢true (ap not (sym (eq-eqb n 0 none)) ∙ t)

    by : (number_of z j ≡ 0) ⊎ (number_of z j ≢ 0) → 0 < number_of z j
    by (inl none) = absurd (unused (number_of z j) none used)
    by (inr some) = omega (arith, some)

-- the greatest value without a winner, less what the others have in the winning choice, is its Vickrey price
pub price-is : (book : Book) (z : List ℕ) (j : ℕ) (others all own : ℤ) → IsWinning (market_of book) z → IsTrue (uses z j) → own ≡ worth_in (market_of book) z j
    → IsGreatestValue (market_of book).allowed (value_of (market_of book)) all → IsGreatestValue (allowed_without (market_of book) j)
    (value_of (market_of book)) others
    → IsVickreyPrice (market_of book) z j (others -ℤ (all -ℤ own))
price-is book z j others all own won used is e without =
    let m = market_of book in
    let V : value_of m z ≡ all = sym (greatest-is m.allowed (value_of m) all z e won) in
    let same : ((others -ℤ (all -ℤ own)) +ℤ value_of m z) -ℤ worth_in m z j ≡ others = rw (V, ← is) (back others all own) in
    (λ _. subst (IsGreatestValue (allowed_without m j) (value_of m)) (sym same) without, λ unused. absurd (false≢true (sym unused ∙ used)))
  where
    back : (others all own : ℤ) → ((others -ℤ (all -ℤ own)) +ℤ all) -ℤ own ≡ others
    back others all own = omega (arith, ints)

-- in a winning choice each number is known
pub winner-known : (book : Book) (z : List ℕ) (j : ℕ) → IsWinning (market_of book) z → zero < j → j ≤ length book.bidders
    → number_of z j ≤ length (bids_of book j)
winner-known book z j won some inside =
    let same : j - 1 + 1 ≡ j = omega arith in
    rw same at (known-of (menu_of book) z (j - 1) (fits-known (menu_of book) book.supply z won.passed) (omega (arith, winning-count book z won)))

-- what a bidder wins is worth at most 2^42 in size
pub own-small : (book : Book) (z : List ℕ) (j : ℕ) (own : ℤ) → IsBidBook book → IsWinning (market_of book) z → zero < j → j ≤ length book.bidders
    → own ≡ worth_in (market_of book) z j → unsigned_abs own ≤ 2 ^ 42
own-small book z j own kept won some inside is = rw is (net-small book j (number_of z j) kept (winner-known book z j won some inside))

-- the surpluses of a table for the net amounts are all 0
zeros-are : (surplus : List ℤ) → ((k : ℕ) → get_or surplus k (pos 0) ≡ pos 0) → surplus ≡ replicate (length surplus) (pos 0)
zeros-are [] zeros = refl
zeros-are (x ∷ surplus) zeros = let first : x ≡ pos 0 = zeros 0 in let rest = zeros-are surplus (λ k. zeros (suc k)) in cc

-- the lines of a plain table without a bidder are the exact table of all bidders but that one
pub table-without : (book : Book) (j : ℕ) (table : TableValue) → IsTableOf book table → IsPlainWithout j table → IsTableWithout book j table.lines
table-without book j table of plain =
    let exact : IsBookTable book j (pos 1) table.surplus table.lines = rw (plain.skip, plain.den) at of.exact in
    let zeros : table.surplus ≡ replicate (length book.bidders) (pos 0) = zeros-are table.surplus plain.zeros ∙ ap (λ n. replicate n (pos 0)) of.bidders in
    subst (λ surplus. IsBookTable book j (pos 1) surplus table.lines) zeros exact

-- one bidder more
newcomer : ℕ → ℕ → List ℕ
newcomer j zero = []
newcomer j (suc i) = j ∷ []

winners-step : (c : List ℕ) (k off : ℕ) → k < length c → winners_after off (take (k + 1) c) ≡ winners_after off (take k c)
    ++ newcomer (suc (off + k)) (get_or c k 0)
unfolding newcomer
winners-step [] k off h = absurd (omega arith)
winners-step (zero ∷ c) zero off h = refl
winners-step (suc i ∷ c) zero off h = let same : off + 0 ≡ off = omega arith in rw same refl
winners-step (zero ∷ c) (suc k) off h =
    let up : suc k + 1 ≡ suc (k + 1) = omega arith in
    let next : off + suc k ≡ suc off + k = omega arith in
    rw (up, next) (winners-step c k (suc off) (omega arith))
winners-step (suc i ∷ c) (suc k) off h =
    let up : suc k + 1 ≡ suc (k + 1) = omega arith in
    let next : off + suc k ≡ suc off + k = omega arith in
    rw (up, next) (ap (λ l. suc off ∷ l) (winners-step c k (suc off) (omega arith)))

newcomer-none : (j n : ℕ) → n ≡ 0 → newcomer j n ≡ []
unfolding newcomer
newcomer-none j n none = rw none refl

newcomer-one : (j n : ℕ) → n ≢ 0 → newcomer j n ≡ j ∷ []
unfolding newcomer
newcomer-one j zero some = absurd (some refl)
newcomer-one j (suc n) some = refl

-- a bidder with no bid in the choice adds no winner
pub winners-skip : (c : List ℕ) (k : ℕ) → k < length c → get_or c k 0 ≡ 0 → winners_after 0 (take (k + 1) c) ≡ winners_after 0 (take k c)
winners-skip c k inside none = winners-step c k 0 inside ∙ ap (λ l. winners_after 0 (take k c) ++ l) (newcomer-none (suc (0 + k)) (get_or c k 0) none)
    ∙ append-nil (winners_after 0 (take k c))

-- a bidder with a bid in the choice is one winner more
pub winners-take : (c : List ℕ) (k : ℕ) → k < length c → get_or c k 0 ≢ 0 → winners_after 0 (take (k + 1) c) ≡ winners_after 0 (take k c) ++ (k + 1) ∷ []
winners-take c k inside some =
    let next : suc (0 + k) ≡ k + 1 = omega arith in
    winners-step c k 0 inside ∙ ap (λ l. winners_after 0 (take k c) ++ l) (newcomer-one (suc (0 + k)) (get_or c k 0) some)
    ∙ ap (λ j. winners_after 0 (take k c) ++ j ∷ []) next

-- one winner more
pub tables-more : (book : Book) (bidders : List ℕ) (tables : List (List (List ℤ))) (j : ℕ) (table : List (List ℤ)) → AreTablesWithout book bidders tables
    → IsTableWithout book j table → AreTablesWithout book (bidders ++ j ∷ []) (tables ++ table ∷ [])
tables-more book bidders tables j table all one = record {
  count = omega (arith, all.count, length-append tables (table ∷ []), length-append bidders (j ∷ []));
  each = λ i inside. elim (cases_lt i (length bidders)) [
    | inl low ↦
        let same = get_or_append_left bidders (j ∷ []) 0 i low in
        let table_same = get_or_append_left tables (table ∷ []) [] i (omega (arith, all.count)) in
        rw (same, table_same) (all.each i low)
    | inr high ↦
        let last : length bidders ≡ i = omega (arith, length-append bidders (j ∷ [])) in
        let same = get_or_push bidders j 0 i last in
        let table_same = get_or_push tables table [] i (omega (arith, all.count)) in
        rw (same, table_same) one
  ];
}

-- what the others have is below 2^127 in size
pub left-size : (all own : ℤ) → unsigned_abs all ≤ 2 ^ 120 → unsigned_abs own ≤ 2 ^ 42 → unsigned_abs (all -ℤ own) < 2 ^ 127
left-size all own p q = omega (arith, ints)

-- a price is below 2^127 in size
pub price-size : (others all own : ℤ) → unsigned_abs others ≤ 2 ^ 121 → unsigned_abs all ≤ 2 ^ 120 → unsigned_abs own ≤ 2 ^ 42
    → unsigned_abs (others -ℤ (all -ℤ own)) < 2 ^ 127
price-size others all own p q r = omega (arith, ints)
