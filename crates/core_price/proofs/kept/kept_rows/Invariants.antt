-- The rows that were passed and kept.
use Rattle.std.proofs.Common.{◌≡◌, ◌++◌, drop}
use Rattle.std.specs.Prelude.{filter}
use Rattle.core_price.specs.Kept.{is_used, with_pairs}
use Rattle.core_price.proofs.kept.kept_rows.Given as goal

abbrev pub invariant-loop-i : goal.invariant-loop-i
invariant-loop-i l =
    l.kept ++ filter is_used (with_pairs (drop l.i l.asked.rows.items) (drop l.i l.asked.choices.items) (drop l.i l.near.first) (drop l.i l.near.second))
    ≡ filter is_used (with_pairs l.asked.rows.items l.asked.choices.items l.near.first l.near.second)
