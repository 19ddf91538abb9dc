use Rattle.std.proofs.Common.{◌≡◌, ◌++◌, [], map, drop}
use Rattle.toml.specs.View.{items_view}
use Rattle.award_file.specs.Fields.{cap_values}
use Rattle.award_file.specs.Parts.{limits}
use Rattle.award_file.specs.Stated.{tables_of}
use Rattle.award_file.specs.Walk.{tables_fault, cap_fault, cap_of, limit_or_none}
use Rattle.award_file.proofs.read.spectrum_caps.read_listed.Given as goal

abbrev pub invariant-tables : goal.invariant-tables
invariant-tables l =
    (tables_fault (cap_fault l.categories) limit_or_none (limits l.caps.items) (tables_of (items_view (drop l.element-index l.tables)))
    ≡ tables_fault (cap_fault l.categories) limit_or_none [] (tables_of (items_view l.tables)))
    × (cap_values l.caps.items ++ map (cap_of l.categories) (tables_of (items_view (drop l.element-index l.tables)))
    ≡ map (cap_of l.categories) (tables_of (items_view l.tables)))
