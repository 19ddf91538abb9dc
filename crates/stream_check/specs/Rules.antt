-- The rules of a table, two lines at a time.
use Rattle.std.specs.Prelude.{◌≡◌, ℕ, suc, ◌-◌, ◌≤◌, ◌<◌, nat_lt, List, [], slice_index_or, Option, Some, None, ℤ, if◌then◌else◌}
use Rattle.auction_model.specs.Book.{Book}
use Rattle.cert_grammar.specs.CertText.{IsTable}
use Rattle.cert_soundness.specs.Tests.{bidders_of, states}
use Rattle.cert_stream.specs.declared.due.NextLine.TheVariants.{Entries}
use Rattle.cert_stream.specs.declared.due.Table.{Table}
use Rattle.cert_stream.specs.Rooms.{segment}

-- of the numbers from one up to another this is the first where P fails, or it fails at
-- none
abbrev pub IsFirstBetween : (ℕ → Type 0) → ℕ → ℕ → Option ℕ → Type 0
IsFirstBetween P from to None = (q : ℕ) → from ≤ q → q < to → P q
IsFirstBetween P from to (Some p) = (from ≤ p) × (p < to) × (P p → ⊥) × ((q : ℕ) → from ≤ q → q < p → P q)

-- how many lines of a table for that many bidders are tested when line k has come
abbrev pub lines_tested : ℕ → ℕ → ℕ
lines_tested b k = if nat_lt k b then k else suc b

-- the room has line k of the table, and the one before it
pub record HasTwoLines (book : Book) (table : Table) (k : ℕ) (room : List ℤ) (t : List (List ℤ)) : Type 0 where
  pub whole : IsTable (bidders_of book) (states book) t
  pub line : segment (bidders_of book) (states book) (Entries table k) room ≡ slice_index_or t k []
  pub before : 0 < k
      → segment (bidders_of book) (states book) (Entries table (k - 1)) room ≡ slice_index_or t (k - 1) []
