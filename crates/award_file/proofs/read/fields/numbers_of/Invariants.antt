use Rattle.std.proofs.Common.{◌≡◌, ◌++◌, ℕ, List, drop, option_map}
use Rattle.toml.specs.View.{items_view}
use Rattle.award_file.specs.Stated.{numbers_of}
use Rattle.award_file.proofs.read.fields.numbers_of.Given as goal

abbrev pub invariant-numbers : goal.invariant-numbers
invariant-numbers l =
    option_map (λ (ns : List ℕ). l.numbers.items ++ ns) (numbers_of l.high (items_view (drop l.value-index l.values)))
    ≡ numbers_of l.high (items_view l.values)
