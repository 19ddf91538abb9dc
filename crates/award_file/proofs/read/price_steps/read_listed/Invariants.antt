use Rattle.std.proofs.Common.{◌≡◌, ◌++◌, [], map, drop}
use Rattle.toml.specs.View.{items_view}
use Rattle.award_file.specs.Parts.{excesses}
use Rattle.award_file.specs.Stated.{tables_of}
use Rattle.award_file.specs.Walk.{tables_fault, step_fault, threshold_of, excess_or_none}
use Rattle.award_file.proofs.read.price_steps.read_listed.Given as goal

abbrev pub invariant-tables : goal.invariant-tables
invariant-tables l =
    (tables_fault step_fault excess_or_none (excesses l.steps.items) (tables_of (items_view (drop l.element-index l.tables)))
    ≡ tables_fault step_fault excess_or_none [] (tables_of (items_view l.tables)))
    × (l.steps.items ++ map threshold_of (tables_of (items_view (drop l.element-index l.tables)))
    ≡ map threshold_of (tables_of (items_view l.tables)))
