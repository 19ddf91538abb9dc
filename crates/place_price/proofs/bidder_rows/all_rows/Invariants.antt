use Rattle.std.proofs.Common.{◌≡◌, ◌++◌, drop, map}
use Rattle.std.specs.List.{AllByRecursion}
use Rattle.book_price.specs.Made.{row_from}
use Rattle.placement_cert.specs.Parts.{row_value}
use Rattle.place_price.specs.PlacedRows.{IsPlacedRow}
use Rattle.place_price.proofs.bidder_rows.all_rows.Given as goal

-- the rows that were made and those that are left are all, and those that were made are placed
abbrev pub invariant-loop-row : goal.invariant-loop-row
invariant-loop-row l = record {
  rows : map row_value l.list ++ map (row_from l.winners) (drop l.row-index l.rows) ≡ map (row_from l.winners) l.rows;
  placed : AllByRecursion (IsPlacedRow l.slots) l.list;
}
