use Rattle.std.proofs.Common.{◌≡◌, ◌++◌, [], map, drop}
use Rattle.toml.specs.View.{items_view}
use Rattle.award_file.specs.Parts.{category_names, category_values}
use Rattle.award_file.specs.Stated.{tables_of}
use Rattle.award_file.specs.Walk.{tables_fault, category_fault, category_of, name_or_none}
use Rattle.award_file.proofs.read.categories.read_listed.Given as goal

abbrev pub invariant-tables : goal.invariant-tables
invariant-tables l =
    (tables_fault category_fault name_or_none (category_names l.categories.items) (tables_of (items_view (drop l.element-index l.tables)))
    ≡ tables_fault category_fault name_or_none [] (tables_of (items_view l.tables)))
    × (category_values l.categories.items ++ map category_of (tables_of (items_view (drop l.element-index l.tables)))
    ≡ map category_of (tables_of (items_view l.tables)))
