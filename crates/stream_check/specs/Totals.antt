-- The multipliers of the rows that have come, and their sums.
use Rattle.std.specs.Prelude.{◌≡◌, ℕ, suc, ◌-◌, ◌≤◌, ◌<◌, length}
use Rattle.auction_model.specs.Lowered.{of_bidder}
use Rattle.cert_grammar.specs.Certificate.{CertValue, row_of}
use Rattle.cert_soundness.specs.Tests.{sum_holding}
use Rattle.wide_num.specs.Sums.{nth}
use Rattle.cert_stream.specs.declared.due.NextLine.{NextLine}
use Rattle.cert_stream.specs.declared.due.NextLine.TheVariants.{Title, Entries, Members, Multipliers, RowChoice, End, Nothing}
use Rattle.cert_stream.specs.declared.due.Table.TheVariants.{Lowered}
use Rattle.stream_check.specs.declared.row_totals.RowTotals.{RowTotals}

-- the totals of the first n rows, and for each bidder the sum over the rows that
-- contain it
pub record AreTotals (c : CertValue) (n : ℕ) (t : RowTotals) : Type 0 where
  pub count : t.count ≡ n
  pub long : (length t.firsts ≡ 10) × (length t.seconds ≡ 10)
  pub firsts : (r : ℕ) → 0 < r → r ≤ n → nth t.firsts (r - 1) ≡ (row_of c.rows r).first
  pub seconds : (r : ℕ) → 0 < r → r ≤ n → nth t.seconds (r - 1) ≡ (row_of c.rows r).second
  pub first_sums : (j : ℕ) → 0 < j → j ≤ 16 → of_bidder t.first_sums j ≡ sum_holding c.rows j (λ row. row.first) n
  pub second_sums : (j : ℕ) → 0 < j → j ≤ 16 → of_bidder t.second_sums j ≡ sum_holding c.rows j (λ row. row.second) n

-- of how many rows the multipliers have come when the line is due
abbrev pub rows_come : CertValue → NextLine → ℕ
rows_come c (Members r) = length c.rows - r
rows_come c (Multipliers r) = length c.rows - r
rows_come c (RowChoice r) = suc (length c.rows - r)
rows_come c due = 0

-- after the rows nobody asks for them
abbrev pub HasTotals : CertValue → NextLine → RowTotals → Type 0
HasTotals c (Title Lowered) t = Unit {0}
HasTotals c (Entries Lowered k) t = Unit {0}
HasTotals c End t = Unit {0}
HasTotals c Nothing t = Unit {0}
HasTotals c due t = AreTotals c (rows_come c due) t
