-- The members, the multipliers and the choice of a row that have come.
use Rattle.std.proofs.Common.{◌≡◌, ℕ, zero, suc, ◌-◌, ◌<◌, ◌≤◌, List, [], ◌∷◌, length, take, inl, inr, refl, sym, ap, subst, ◌∙◌, arith}
use Rattle.std.proofs.lemmas.Bool.{cases_lt}
use Rattle.std.proofs.lemmas.List.{take_all}
use Rattle.std.specs.Prelude.{ℤ, pos, min, slice_index_or}
use Rattle.auction_model.specs.Book.{Book}
use Rattle.cert_grammar.specs.Certificate.{CertValue, RowValue, row_of}
use Rattle.cert_grammar.specs.CertText.{AreRows, IsRow, as_numbers}
use Rattle.cert_soundness.specs.Tests.{bidders_of}
use Rattle.cert_stream.specs.declared.due.NextLine.{NextLine}
use Rattle.cert_stream.specs.declared.due.NextLine.TheVariants.{Choice, Den, End, Entries, Limits, Members, Multipliers, Nothing, PartChoice, Payments}
use Rattle.cert_stream.specs.declared.due.NextLine.TheVariants.{RowChoice, Rows, Title, Value, Version, Without}
use Rattle.cert_stream.specs.declared.due.Table.TheVariants.{Head, Part, Lowered}
use Rattle.cert_stream.specs.LinesLeft.{row_at}
use Rattle.cert_stream.specs.Order.{IsPartNext, IsRowNext}
use Rattle.stream_check.specs.declared.moment.LineContext.{LineContext}
use Rattle.stream_check.specs.declared.row_totals.RowTotals.{RowTotals}
use Rattle.stream_check.specs.Lines.{IsNext}
use Rattle.stream_check.specs.Moments.{IsAt}
use Rattle.stream_check.specs.Totals.{AreTotals, HasTotals}
use Rattle.stream_check.proofs.NextLaws.{at-due}

-- the row of which r are to come with it, counted from 1
pub row-is : (c : CertValue) (r : ℕ) → row_at c r ≡ row_of c.rows (suc (length c.rows - r))
row-is c r = let back : length c.rows - r ≡ suc (length c.rows - r) - 1 = omega arith in
    ap (λ (n : ℕ). slice_index_or c.rows n (record { members = []; first = pos 0; second = pos 0; choice = [] })) back

-- what a row keeps
row-kept : (b : ℕ) (rows : List RowValue) (k : ℕ) (d : RowValue) → AreRows b rows → k < length rows → IsRow b (slice_index_or rows k d)
row-kept b [] k d are lt = absurd (omega (arith, lt))
row-kept b (r ∷ rows) zero d are lt = are.0
row-kept b (r ∷ rows) (suc k) d are lt = row-kept b rows k d are.1 (omega (arith, lt))

-- the row of which r are to come with it is one for these bidders
pub row_at-kept : (b : ℕ) (c : CertValue) (r : ℕ) → AreRows b c.rows → 0 < r → r ≤ length c.rows → IsRow b (row_at c r)
row_at-kept b c r are some le = row-kept b c.rows (length c.rows - r) (record { members = []; first = pos 0; second = pos 0; choice = [] }) are
    (omega (arith, some, le))

-- totals of as many rows
as-many : (c : CertValue) (m n : ℕ) (t : RowTotals) → m ≡ n → AreTotals c m t → AreTotals c n t
as-many c m n t is are = subst (λ (x : ℕ). AreTotals c x t) is are

-- after the parts no row has come
part-totals : (b : ℕ) (c : CertValue) (choice : List ℤ) (j : ℕ) (next : NextLine) (t : RowTotals) → IsPartNext b choice j next → AreTotals c 0 t → HasTotals c next t
part-totals b c choice j Version t is are = absurd is
part-totals b c choice j Limits t is are = absurd is
part-totals b c choice j Den t is are = absurd is
part-totals b c choice j Value t is are = absurd is
part-totals b c choice j Choice t is are = absurd is
part-totals b c choice j (Title table) t is are = absurd is
part-totals b c choice j (Entries table k) t is are = absurd is
part-totals b c choice j (Without i) t is are = are
part-totals b c choice j (PartChoice i) t is are = absurd is
part-totals b c choice j Payments t is are = are
part-totals b c choice j Rows t is are = absurd is
part-totals b c choice j (Members r) t is are = absurd is
part-totals b c choice j (Multipliers r) t is are = absurd is
part-totals b c choice j (RowChoice r) t is are = absurd is
part-totals b c choice j End t is are = absurd is
part-totals b c choice j Nothing t is are = absurd is

-- after a row, or the count of rows
row-totals : (c : CertValue) (n : ℕ) (next : NextLine) (t : RowTotals) → IsRowNext n next → AreTotals c (length c.rows - n) t → HasTotals c next t
row-totals c zero next t is are = subst (λ (d : NextLine). HasTotals c d t) (sym is) tt
row-totals c (suc r) next t is are = subst (λ (d : NextLine). HasTotals c d t) (sym is) are

-- another line leaves the totals as they are
pub totals-next : (book : Book) (c : CertValue) (due next : NextLine) (t : RowTotals) → ((r : ℕ) → due ≡ Multipliers r → ⊥) →
    ((r : ℕ) → due ≡ RowChoice r → (0 < r) × (r ≤ length c.rows)) → length c.rows ≤ 10 → IsNext book c due next → HasTotals c due t → HasTotals c next t
totals-next book c Version next t other rows few is has = elim is [
  | inl e ↦ subst (λ (d : NextLine). HasTotals c d t) (sym e) has
  | inr e ↦ subst (λ (d : NextLine). HasTotals c d t) (sym e) has
]
totals-next book c Limits next t other rows few is has = subst (λ (d : NextLine). HasTotals c d t) (sym is) has
totals-next book c Den next t other rows few is has = subst (λ (d : NextLine). HasTotals c d t) (sym is) has
totals-next book c Value next t other rows few is has = subst (λ (d : NextLine). HasTotals c d t) (sym is) has
totals-next book c Choice next t other rows few is has = subst (λ (d : NextLine). HasTotals c d t) (sym is) has
totals-next book c (Title Head) next t other rows few is has = subst (λ (d : NextLine). HasTotals c d t) (sym is) has
totals-next book c (Title (Part j)) next t other rows few is has = subst (λ (d : NextLine). HasTotals c d t) (sym is) has
totals-next book c (Title Lowered) next t other rows few is has = subst (λ (d : NextLine). HasTotals c d t) (sym is) tt
totals-next book c (Entries Head k) next t other rows few is has = elim (cases_lt k (bidders_of book)) [
  | inl lt ↦ subst (λ (d : NextLine). HasTotals c d t) (sym (is.0 lt)) has
  | inr past ↦ part-totals (bidders_of book) c (as_numbers c.choice) 0 next t (is.1 past) has
]
totals-next book c (Entries (Part j) k) next t other rows few is has = elim (cases_lt k (bidders_of book)) [
  | inl lt ↦ subst (λ (d : NextLine). HasTotals c d t) (sym (is.0 lt)) has
  | inr past ↦ part-totals (bidders_of book) c (as_numbers c.choice) j next t (is.1 past) has
]
totals-next book c (Entries Lowered k) next t other rows few is has = elim (cases_lt k (bidders_of book)) [
  | inl lt ↦ subst (λ (d : NextLine). HasTotals c d t) (sym (is.0 lt)) tt
  | inr past ↦ subst (λ (d : NextLine). HasTotals c d t) (sym (is.1 past)) tt
]
totals-next book c (Without j) next t other rows few is has = subst (λ (d : NextLine). HasTotals c d t) (sym is) has
totals-next book c (PartChoice j) next t other rows few is has = subst (λ (d : NextLine). HasTotals c d t) (sym is) has
totals-next book c Payments next t other rows few is has = subst (λ (d : NextLine). HasTotals c d t) (sym is) has
totals-next book c Rows next t other rows few is has = row-totals c (length c.rows) next t (is (length c.rows) refl few)
    (as-many c 0 (length c.rows - length c.rows) t (omega arith) has)
totals-next book c (Members r) next t other rows few is has = subst (λ (d : NextLine). HasTotals c d t) (sym is) has
totals-next book c (Multipliers r) next t other rows few is has = absurd (other r refl)
totals-next book c (RowChoice r) next t other rows few is has = (let in_rows = rows r refl in row-totals c (r - 1) next t is
    (as-many c (suc (length c.rows - r)) (length c.rows - (r - 1)) t (omega (arith, in_rows.0, in_rows.1)) has))
totals-next book c End next t other rows few is has = subst (λ (d : NextLine). HasTotals c d t) (sym is) tt
totals-next book c Nothing next t other rows few is has = subst (λ (d : NextLine). HasTotals c d t) (sym is) tt

-- after the multipliers the row's are among them
pub pair-next : (book : Book) (c : CertValue) (r : ℕ) (next : NextLine) (t : RowTotals) → IsNext book c (Multipliers r) next
    → AreTotals c (suc (length c.rows - r)) t → HasTotals c next t
pair-next book c r next t is are = subst (λ (d : NextLine). HasTotals c d t) (sym is) are

-- the members of a row, in as many numbers as there are
pub take-few : (n : ℕ) (xs : List ℤ) → take (min n (length xs)) xs ≡ take n xs
take-few n xs =
    elim (cases_lt (length xs) n) [
      | inl lt ↦ ap (λ (m : ℕ). take m xs) {x = min n (length xs)} {y = length xs} (omega (arith, lt)) ∙ take_all (length xs) xs (omega arith)
          ∙ sym (take_all n xs (omega (arith, lt)))
      | inr le ↦ ap (λ (m : ℕ). take m xs) {x = min n (length xs)} {y = n} (omega (arith, le))
    ]

-- the row of a choice is one of the certificate's
pub rows-named : (at : LineContext) (c : CertValue) (is : IsAt at c) (r : ℕ) → at.due ≡ RowChoice r → (0 < r) × (r ≤ length c.rows)
rows-named at c is r due = (let here = at-due at c (RowChoice r) due is in (here.known.named.0, here.known.has))
