use Rattle.std.proofs.Common.{◌≡◌, ◌++◌, drop, map}
use Rattle.book_price.specs.Made.{row_from}
use Rattle.cert_text.specs.Parts.{row_value}
use Rattle.book_price.proofs.bidder_rows.all_rows.Given as goal

-- the rows that were made and those that are left are all
abbrev pub invariant-loop-row : goal.invariant-loop-row
invariant-loop-row l = map row_value l.list ++ map (row_from l.winners) (drop l.row-index l.rows) ≡ map (row_from l.winners) l.rows
