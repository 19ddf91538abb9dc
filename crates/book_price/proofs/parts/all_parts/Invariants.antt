use Rattle.std.proofs.Common.{◌≡◌, ◌++◌, drop, map}
use Rattle.book_price.specs.Made.{parts_from}
use Rattle.cert_text.specs.Parts.{without_value}
use Rattle.book_price.proofs.parts.all_parts.Given as goal

-- the parts that were made and those that are left are all
abbrev pub invariant-loop-i : goal.invariant-loop-i
invariant-loop-i l = map without_value l.parts ++ parts_from (drop l.i l.alone.singles) (drop l.i l.alone.tables) ≡ parts_from l.alone.singles l.alone.tables
