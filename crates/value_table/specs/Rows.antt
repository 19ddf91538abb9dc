-- The rows of a block of two categories. A bid raises their prefix.
use Rattle.std.specs.Prelude.{◌≡◌, ℕ, ◌+◌, ◌-◌, ◌*◌, ◌≤◌, ◌<◌, List, slice_index_or, ℤ, pos, ◌+ℤ◌}
use Rattle.std.specs.Int.{int_max}
use Rattle.value_table.specs.declared.shape.Rows.{Rows}

-- a line of that many places ends with the run of the last row
abbrev pub HasRows : Rows → ℕ → Type 0
HasRows rows places = places ≡ (rows.count - 1) * rows.width + rows.run

-- the prefix of each row is raised to the line below with a worth, and all else is as it was
pub record AreRowsRaised (rows : Rows) (below : List ℤ) (worth : ℤ) (old new : List ℤ) : Type 0 where
  pub raised : (q i : ℕ) → q < rows.count → i < rows.run
      → slice_index_or new (q * rows.width + i) (pos 0)
      ≡ int_max (slice_index_or old (q * rows.width + i) (pos 0)) (worth +ℤ slice_index_or below (q * rows.width + i) (pos 0))
  pub kept : (q i : ℕ) → i < rows.width → rows.run ≤ i
      → slice_index_or new (q * rows.width + i) (pos 0) ≡ slice_index_or old (q * rows.width + i) (pos 0)
