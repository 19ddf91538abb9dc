use Rattle.std.proofs.Common.{◌≡◌, drop}
use Rattle.toml.specs.View.{items_view}
use Rattle.toml.specs.Text.{are_tables}
use Rattle.award_file.proofs.read.fields.are_tables.Given as goal

abbrev pub invariant-values : goal.invariant-values
invariant-values l = are_tables (items_view (drop l.value-index l.values)) ≡ are_tables (items_view l.values)
