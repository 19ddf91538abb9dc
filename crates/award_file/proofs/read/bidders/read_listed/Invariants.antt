use Rattle.std.proofs.Common.{◌≡◌, ◌++◌, [], map, drop}
use Rattle.toml.specs.View.{items_view}
use Rattle.award_file.specs.Award.{names_of}
use Rattle.award_file.specs.Stated.{tables_of}
use Rattle.award_file.specs.Walk.{tables_fault, bidder_fault, entrant_of, name_or_none}
use Rattle.award_file.proofs.read.bidders.read_listed.Given as goal

abbrev pub invariant-tables : goal.invariant-tables
invariant-tables l =
    (tables_fault (bidder_fault l.categories) name_or_none (names_of l.bidders) (tables_of (items_view (drop l.element-index l.tables)))
    ≡ tables_fault (bidder_fault l.categories) name_or_none [] (tables_of (items_view l.tables)))
    × (l.bidders ++ map (entrant_of l.categories) (tables_of (items_view (drop l.element-index l.tables)))
    ≡ map (entrant_of l.categories) (tables_of (items_view l.tables)))
