-- The tests of the rows and of their multipliers, when a line of the rows has come.
use Rattle.std.proofs.Common.{◌≡◌, ℕ, zero, suc, ◌+◌, ◌-◌, ◌<◌, ◌≤◌, [], ◌∷◌, length, refl, sym, subst, ◌∙◌, arith}
use Rattle.std.specs.Prelude.{pos, Option, Some, None}
use Rattle.auction_model.specs.Book.{Book}
use Rattle.auction_model.specs.Prices.{weight_of}
use Rattle.cert_grammar.specs.Certificate.{CertValue}
use Rattle.cert_grammar.specs.CertText.{as_numbers}
use Rattle.cert_soundness.specs.Tests.{Asks, C6, FailsFirst, IsTightRow, bidders_of, states}
use Rattle.cert_check.specs.declared.failure.Failure.{Failure}
use Rattle.cert_check.specs.Partway.{HoldsTo, IsJudged}
use Rattle.cert_check.proofs.PartwayLaws.{holds-further, holds-whole}
use Rattle.cert_stream.specs.declared.due.NextLine.{NextLine}
use Rattle.cert_stream.specs.declared.due.NextLine.TheVariants.{Title, Payments, Rows, Members, RowChoice}
use Rattle.cert_stream.specs.declared.due.Table.TheVariants.{Lowered}
use Rattle.cert_stream.specs.LinesLeft.{row_at}
use Rattle.cert_stream.specs.Order.{IsRowNext}
use Rattle.cert_stream.specs.Rooms.{segment}
use Rattle.stream_check.specs.declared.moment.LineContext.{LineContext}
use Rattle.stream_check.specs.Lines.{IsAtLine, IsNext}
use Rattle.stream_check.specs.Moments.{IsAt}
use Rattle.stream_check.specs.Tests.{IsFound}
use Rattle.stream_check.specs.Totals.{AreTotals}
use Rattle.stream_check.proofs.NextLaws.{at-due, next-due, found-by, found-next}
use Rattle.stream_check.proofs.RowCome.{row-is}

module _ (book : Book) (w : ℕ → ℕ) (c : CertValue) where
  asks-C6 : (place : ℕ) → C6 book c place → Asks book w c 6 place
  asks-C6 place own = (
    λ e. absurd (omega (arith, e)),
    λ e. absurd (omega (arith, e)),
    λ e. absurd (omega (arith, e)),
    λ e. absurd (omega (arith, e)),
    λ e. absurd (omega (arith, e)),
    λ e. own,
    λ e. absurd (omega (arith, e)),
    λ e. absurd (omega (arith, e)),
    λ e. absurd (omega (arith, e)),
  )

  -- nothing is asked of row 0
  no-row : HoldsTo book w c 6 0 → HoldsTo book w c 6 1
  no-row before = holds-further book w c 6 0 1 before (λ i lt. asks-C6 (0 + i) (record { row = λ some le. absurd (omega (arith, lt, some)) }))

  -- nor after the last row
  pub all-rows : (n : ℕ) → length c.rows < n → HoldsTo book w c 6 n → HoldsTo book w c 7 0
  all-rows n past before = holds-whole book w c 6 n before (λ q high. asks-C6 q (record { row = λ some le. absurd (omega (arith, past, high, le)) }))

  -- one row more
  pub row-more : (r : ℕ) → HoldsTo book w c 6 (suc (length c.rows - r)) → IsTightRow book c (row_at c r) → HoldsTo book w c 6 (suc (length c.rows - r) + 1)
  row-more r before tight = holds-further book w c 6 (suc (length c.rows - r)) 1 before (λ i low.
      let here : suc (length c.rows - r) ≡ suc (length c.rows - r) + i = omega (arith, low) in
      subst (λ (n : ℕ). Asks book w c 6 n) here (asks-C6 (suc (length c.rows - r)) (record { row = λ some le. subst (IsTightRow book c) (row-is c r) tight })))

  -- a row that isn't met
  pub row-fails : (r place : ℕ) (next : NextLine) (late : Option ℕ) (f : Failure) → 0 < r → r ≤ length c.rows → f.test ≡ 6 → f.place ≡ place
      → place ≡ suc (length c.rows - r) → HoldsTo book w c 6 (suc (length c.rows - r)) → (IsTightRow book c (row_at c r) → ⊥)
      → IsFound book w c next (Some f) late
  row-fails r place next late f some le test is place_is before fails =
      subst (λ (t : ℕ). FailsFirst book w c t f.place) (sym test)
      (subst (λ (p : ℕ). FailsFirst book w c 6 p) (sym (is ∙ place_is))
      (record {
        fails = λ asks. fails (subst (IsTightRow book c) (sym (row-is c r)) ((asks.5 refl).row (omega arith) (omega (arith, some, le))));
        before = before;
      }))

  -- rows are to come
  pub rows-next : (n : ℕ) (next : NextLine) → IsRowNext n next → 0 < n → HoldsTo book w c 6 (suc (length c.rows - n)) → IsFound book w c next None None
  rows-next zero next is some before = absurd (omega (arith, some))
  rows-next (suc n) next is some before = found-next book w c (Members (suc n)) next None None is (record { holds = before; early = refl; part = tt })

  -- none is to come
  pub rows-done : (n : ℕ) (next : NextLine) (failed : Option Failure) → IsRowNext n next → n ≡ 0 → IsJudged book w c 9 0 failed → IsFound book w c next failed None
  rows-done zero next failed is none judged = found-next book w c (Title Lowered) next failed None is
      (found-by book w c 9 0 (Title Lowered) failed None judged (λ holds. record
      { holds = subst (HoldsTo book w c 9) {x = 0} (omega arith) holds; early = refl; part = tt }))
  rows-done (suc n) next failed is none judged = absurd (omega (arith, none))

-- a count of 0
pub none-of : (n : ℕ) → pos n ≡ pos 0 → n ≡ 0
none-of n e = cc

module _ (at : LineContext) (c : CertValue) (is : IsAt at c) (due : at.due ≡ Rows) where
  own : IsAtLine at.book.now (weight_of at.weights.now) c Rows at.count at.late at.members at.grows at.totals.now at.room.now
  own = at-due at c Rows due is

  -- the room has the count of rows
  pub count-there : segment (bidders_of at.book.now) (states at.book.now) Rows at.room.now ≡ pos (length c.rows) ∷ []
  count-there = own.own.whole tt

  -- if there are no rows, the totals are those of all
  pub no-totals : length c.rows ≡ 0 → AreTotals c (length c.rows) at.totals.now
  no-totals none = subst (λ (n : ℕ). AreTotals c n at.totals.now) (sym none) own.known.in_totals

  -- after the count comes the first row, or what follows the rows if there are none
  pub count-next : (next : NextLine) → IsNext at.book.now c at.due next → IsRowNext (length c.rows) next
  count-next next follows = next-due at c Rows next due follows (length c.rows) refl is.kept.few

  -- if there are rows, nothing more fails when their count has come
  pub some-shows : (next : NextLine) → IsNext at.book.now c at.due next → (length c.rows ≡ 0 → ⊥) → IsFound at.book.now (weight_of at.weights.now) c next None None
  some-shows next follows some =
      rows-next at.book.now (weight_of at.weights.now) c (length c.rows) next (count-next next follows) (positive (length c.rows) some)
      (subst (λ (n : ℕ). HoldsTo at.book.now (weight_of at.weights.now) c 6 n) (omega arith)
      (no-row at.book.now (weight_of at.weights.now) c own.known.tested.holds))
    where
      positive : (n : ℕ) → (n ≡ 0 → ⊥) → 0 < n
      positive zero some = absurd (some refl)
      positive (suc n) some = omega arith

  -- if there are no rows, the first six tests hold
  pub none-holds : length c.rows ≡ 0 → HoldsTo at.book.now (weight_of at.weights.now) c 7 0
  none-holds none = all-rows at.book.now (weight_of at.weights.now) c 1 (omega (arith, none))
      (no-row at.book.now (weight_of at.weights.now) c own.known.tested.holds)

module _ (at : LineContext) (c : CertValue) (is : IsAt at c) (r : ℕ) (due : at.due ≡ RowChoice r) where
  row-line : IsAtLine at.book.now (weight_of at.weights.now) c (RowChoice r) at.count at.late at.members at.grows at.totals.now at.room.now
  row-line = at-due at c (RowChoice r) due is

  -- the row is to come
  pub row-some : 0 < r
  row-some = row-line.known.named.0

  -- no more rows are to come than there are
  pub row-inside : r ≤ length c.rows
  row-inside = row-line.known.has

  -- the room has the payments
  pub row-pay : segment (bidders_of at.book.now) (states at.book.now) Payments at.room.now ≡ c.pay
  row-pay = row-line.known.in_room.pay (omega arith)

  -- the room has the row's choice
  pub row-choice : segment (bidders_of at.book.now) (states at.book.now) (RowChoice r) at.room.now ≡ as_numbers (row_at c r).choice
  row-choice = row-line.own.whole tt

  -- the totals are those of the rows up to this one
  pub row-totals : AreTotals c (suc (length c.rows - r)) at.totals.now
  row-totals = row-line.known.in_totals

  -- all that is asked before this row holds
  pub row-before : HoldsTo at.book.now (weight_of at.weights.now) c 6 (suc (length c.rows - r))
  row-before = row-line.known.tested.holds

  -- after it comes the next row, or what follows the rows
  pub row-order : (next : NextLine) → IsNext at.book.now c at.due next → IsRowNext (r - 1) next
  row-order next follows = next-due at c (RowChoice r) next due follows

  -- if a row that isn't the last is tight, nothing fails up to the next one
  pub more-shows : (next : NextLine) → IsNext at.book.now c at.due next → (r ≡ 1 → ⊥) → IsTightRow at.book.now c (row_at c r)
      → IsFound at.book.now (weight_of at.weights.now) c next None None
  more-shows next follows other tight =
      rows-next at.book.now (weight_of at.weights.now) c (r - 1) next (row-order next follows) (above r row-some other)
      (subst (λ (n : ℕ). HoldsTo at.book.now (weight_of at.weights.now) c 6 n) (omega (arith, row-some, row-inside))
      (row-more at.book.now (weight_of at.weights.now) c r row-before tight))
    where
      above : (r : ℕ) → 0 < r → (r ≡ 1 → ⊥) → 0 < r - 1
      above zero some other = absurd (omega (arith, some))
      above (suc zero) some other = absurd (other refl)
      above (suc (suc r)) some other = omega arith

  -- if the last row is tight, the first six tests hold
  pub last-holds : r ≡ 1 → IsTightRow at.book.now c (row_at c r) → HoldsTo at.book.now (weight_of at.weights.now) c 7 0
  last-holds one tight = all-rows at.book.now (weight_of at.weights.now) c (suc (length c.rows - r) + 1) (omega (arith, one, row-inside))
      (row-more at.book.now (weight_of at.weights.now) c r row-before tight)

  -- at the last row the totals are those of all rows
  pub last-totals : r ≡ 1 → AreTotals c (length c.rows) at.totals.now
  last-totals one = subst (λ (n : ℕ). AreTotals c n at.totals.now) (omega (arith, one, row-some, row-inside)) row-totals
