-- A certificate as a value. It shows that a choice is the winning one of a book, and that what its winners pay is the nearest of
-- the core points of least sum. Amounts are net of reserve; payments, multipliers and the lowered table are times `den`.
use Rattle.std.specs.Prelude.{ℕ, ◌-◌, Bool, false, ◌||◌, ◌==◌, List, [], ◌∷◌, slice_index_or, ℤ, pos, if◌then◌else◌}

-- the best choice without a winner, and the table that shows that none is better
pub record WithoutValue : Type 0 where
  pub winner : ℕ
  pub choice : List ℕ
  pub table : List (List ℤ)

-- a set of winners, its two multipliers, and the choice that determines its bound
pub record RowValue : Type 0 where
  pub members : List ℕ
  pub first : ℤ
  pub second : ℤ
  pub choice : List ℕ

-- `table` shows that no choice has a greater value, and `lowered` that no set of bidders blocks the payments
pub record CertValue : Type 0 where
  pub den : ℤ
  pub value : ℤ
  pub choice : List ℕ
  pub table : List (List ℤ)
  pub withouts : List WithoutValue
  pub pay : List ℤ
  pub rows : List RowValue
  pub lowered : List (List ℤ)

-- the list has this number
abbrev pub is_member : List ℕ → ℕ → Bool
is_member [] j = false
is_member (i ∷ members) j = (i == j) || is_member members j

-- the part without bidder j
abbrev pub part_of : List WithoutValue → ℕ → WithoutValue
part_of [] j = record { winner = j; choice = []; table = [] }
part_of (w ∷ ws) j = if w.winner == j then w else part_of ws j

-- row r, counted from 1
abbrev pub row_of : List RowValue → ℕ → RowValue
row_of rows r = slice_index_or rows (r - 1) (record { members = []; first = pos 0; second = pos 0; choice = [] })
