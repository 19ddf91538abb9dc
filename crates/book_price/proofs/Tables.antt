-- The tables of pricing are exact tables of the book, and their numbers are in range.
use Rattle.std.specs.Prelude.{◌≡◌, ℕ, suc, ◌-◌, ◌^◌, ◌<◌, Bool, List, [], ◌∷◌, length, replicate, get_or, ℤ, pos, unsigned_abs, refl}
use Rattle.std.proofs.Common.{sym, ◌∙◌, ap, arith}
use Rattle.auction_model.specs.Book.{Book, menu_of, net_of}
use Rattle.auction_model.specs.Greatest.{IsGreatestValue}
use Rattle.auction_model.specs.Lowered.{lowered}
use Rattle.auction_model.specs.Market.{sum_after}
use Rattle.auction_model.specs.Menu.{Menu, fits_after, without}
use Rattle.auction_model.specs.Place.{left_at, states_of}
use Rattle.auction_model.specs.Table.{IsExactTable}
use Rattle.auction_model.proofs.BoundLaws.{AreCapped, caps_of, line-sizes, lowered-capped}
use Rattle.auction_model.proofs.ListLaws.{zeros-at}
use Rattle.auction_model.proofs.PlainLaws.{fits-without_none, sum-plain}
use Rattle.bid_book.specs.Kept.{IsBidBook}
use Rattle.cert_grammar.specs.CertText.{AllInRange, AreTableLines, IsTable}
use Rattle.cert_soundness.specs.Tests.{bidders_of, states}
use Rattle.choices.specs.Lines.{width_of}
use Rattle.value_table.specs.BookTable.{IsBookTable, IsInRange, menu_without}
use Rattle.value_table.specs.TableValue.{IsLoweredTable, IsPlain, IsTableOf, TableValue}
use Rattle.value_table.proofs.Plain.{plain-range}
use Rattle.vickrey.specs.VickreyValue.{IsTableWithout}

greatest-same : (p q : List ℕ → Bool) (v w : List ℕ → ℤ) (most : ℤ) → ((c : List ℕ) → p c ≡ q c) → ((c : List ℕ) → v c ≡ w c) → IsGreatestValue p v most
    → IsGreatestValue q w most
greatest-same p q v w most tests values g = record {
  reached = (g.reached.0, sym (tests g.reached.0) ∙ g.reached.1, sym (values g.reached.0) ∙ g.reached.2);
  bound = λ c t. rw (← values c) (g.bound c (tests c ∙ t));
}

-- the same table for another menu and other worths that give the same sums
exact-same : (m n : Menu) (counts worths : ℕ → ℕ → ℤ) (supply : List ℕ) (table : List (List ℤ)) → m.bidders ≡ n.bidders
    → ((k : ℕ) (s c : List ℕ) → fits_after m k s c ≡ fits_after n k s c) → ((k : ℕ) (c : List ℕ) → sum_after counts k c ≡ sum_after worths k c)
    → IsExactTable m counts supply table → IsExactTable n worths supply table
exact-same m n counts worths supply table bidders fits sums e = record {
  lines = e.lines ∙ ap suc bidders;
  exact = λ k le.
      let line = e.exact k (omega (arith, le, bidders)) in
      record {
        places = line.places;
        exact = λ s lt. greatest-same (fits_after m k (left_at supply s)) (fits_after n k (left_at supply s)) (sum_after counts k) (sum_after worths k)
            (get_or (get_or table k []) s (pos 0)) (fits k (left_at supply s)) (sums k) (line.exact s lt);
      };
}

module _ (book : Book) where
  -- the table of all bids, for the net amounts
  pub table_of-all : (table : TableValue) → IsTableOf book table → IsPlain table → IsExactTable (menu_of book) (net_of book) book.supply table.lines
  table_of-all table of plain =
      let exact : IsBookTable book 0 (pos 1) table.surplus table.lines = rw (plain.skip, plain.den) at of.exact in
      exact-same (menu_without book 0) (menu_of book) (lowered (pos 1) (net_of book) table.surplus) (net_of book) book.supply table.lines refl
      (λ k s c. fits-without_none (menu_of book) k s c) (λ k c. sum-plain (net_of book) table.surplus k c (λ j. refl) (λ j. plain.zeros (j - 1))) exact

  -- the table without a bidder, for the net amounts
  pub table_of-others : (j : ℕ) (lines : List (List ℤ)) → IsTableWithout book j lines → IsExactTable (without (menu_of book) j) (net_of book) book.supply lines
  table_of-others j lines exact =
      let surplus = replicate (length book.bidders) (pos 0) in
      exact-same (menu_without book j) (without (menu_of book) j) (lowered (pos 1) (net_of book) surplus) (net_of book) book.supply lines refl
      (λ k s c. refl) (λ k c. sum-plain (net_of book) surplus k c (λ j. refl) (λ i. zeros-at (length book.bidders) (i - 1))) exact

  -- the table of the lowered worths
  pub table_of-lowered : (den : ℤ) (by : List ℤ) (table : TableValue) → IsLoweredTable book den by table
      → IsExactTable (menu_of book) (lowered den (net_of book) by) book.supply table.lines
  table_of-lowered den by table is =
      let exact : IsBookTable book 0 den by table.lines = rw (is.skip, is.den, is.surplus) at is.exact.exact in
      exact-same (menu_without book 0) (menu_of book) (lowered den (net_of book) by) (lowered den (net_of book) by) book.supply table.lines refl
      (λ k s c. fits-without_none (menu_of book) k s c) (λ k c. refl) exact

  row-in_range : (line : List ℤ) → ((s : ℕ) → unsigned_abs (get_or line s (pos 0)) < 2 ^ 120) → AllInRange line
  row-in_range [] small = tt
  row-in_range (x ∷ line) small = (small 0, row-in_range line (λ s. small (suc s)))

  lines-in_range : (count : ℕ) (table : List (List ℤ)) → ((k : ℕ) → k < length table → length (get_or table k []) ≡ count)
      → ((k s : ℕ) → k < length table → unsigned_abs (get_or (get_or table k []) s (pos 0)) < 2 ^ 120) → AreTableLines count table
  lines-in_range count [] long small = tt
  lines-in_range count (t ∷ table) long small = (
    long 0 (omega arith),
    row-in_range t (λ s. small 0 s (omega arith)),
    lines-in_range count table (λ k lt. long (suc k) (omega (arith, lt))) (λ k s lt. small (suc k) s (omega (arith, lt))),
  )

  -- the shape of a table whose sums stay in range
  pub shape_of-table : (skip : ℕ) (den : ℤ) (surplus : List ℤ) (lines : List (List ℤ)) → IsBookTable book skip den surplus lines
      → IsInRange book skip den surplus → IsTable (bidders_of book) (states book) lines
  shape_of-table skip den surplus lines exact range =
      let m = menu_without book skip in
      let counts = lowered den (net_of book) surplus in
      let caps = caps_of m.bids (net_of book) den surplus in
      let capped : AreCapped m counts caps = lowered-capped m.bids (net_of book) den surplus in (
        exact.lines,
        lines-in_range (states_of book.supply) lines (λ k lt. (exact.exact k (omega (arith, lt, exact.lines))).places)
            (λ k s lt. omega (
              arith,
              range,
              line-sizes m counts book.supply k (get_or lines k []) caps capped
                  (exact.exact k (omega (arith, lt, exact.lines))) s,
            )),
      )

  -- the table of all bids has the shape of a table of the book
  pub shape_of-all : (table : TableValue) → IsTableOf book table → IsTable (bidders_of book) (states book) table.lines
  shape_of-all table of = shape_of-table table.skip table.den table.surplus table.lines of.exact of.range

  -- so has the table without a bidder
  pub shape_of-others : (j : ℕ) (lines : List (List ℤ)) → IsBidBook book → IsTableWithout book j lines → IsTable (bidders_of book) (states book) lines
  shape_of-others j lines kept exact =
      let surplus = replicate (length book.bidders) (pos 0) in
      shape_of-table j (pos 1) surplus lines exact (plain-range book j surplus kept (zeros-at (length book.bidders)))

  -- an exact table is as wide as there are states
  pub width-is : (m : Menu) (counts : ℕ → ℕ → ℤ) (table : List (List ℤ)) → IsExactTable m counts book.supply table → width_of table ≡ states book
  width-is m counts table exact = (exact.exact 0 (omega arith)).places
