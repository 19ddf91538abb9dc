use Rattle.std.proofs.Common.{◌-◌, ◌^◌}
use Rattle.value_table.proofs.ShortLaws.{small-short}
use Rattle.value_table.proofs.rows.raise_short.Goals as goal

pub raise_by_fours-requires-clause-sizes : goal.raise_by_fours-requires-clause-sizes
raise_by_fours-requires-clause-sizes c = λ s. small-short c.args.below.now s (2 ^ 31 - 1) (c.requires.sizes s)

pub raise_by_fours-requires-in-5-to-8-clause-sizes : goal.raise_by_fours-requires-in-5-to-8-clause-sizes
raise_by_fours-requires-in-5-to-8-clause-sizes c = λ s. small-short c.args.below.now s (2 ^ 31 - 1) (c.requires.sizes s)

pub raise_by_fours-requires-in-9-to-12-clause-sizes : goal.raise_by_fours-requires-in-9-to-12-clause-sizes
raise_by_fours-requires-in-9-to-12-clause-sizes c = λ s. small-short c.args.below.now s (2 ^ 31 - 1) (c.requires.sizes s)

pub raise_by_fours-requires-in-13-to-16-clause-sizes : goal.raise_by_fours-requires-in-13-to-16-clause-sizes
raise_by_fours-requires-in-13-to-16-clause-sizes c = λ s. small-short c.args.below.now s (2 ^ 31 - 1) (c.requires.sizes s)
