use Rattle.std.proofs.Common.{◌≡◌, drop}
use Rattle.std.specs.List.{list_any}
use Rattle.std.specs.Str.{bytes_eq}
use Rattle.award_file.specs.Parts.{category_names}
use Rattle.award_file.proofs.read.categories.has_name.Given as goal

abbrev pub invariant-categories : goal.invariant-categories
invariant-categories l =
    list_any (bytes_eq l.name) (category_names (drop l.category-index l.categories)) ≡ list_any (bytes_eq l.name) (category_names l.categories)
