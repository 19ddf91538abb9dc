-- No name occurs twice among none.
use Rattle.std.proofs.Common.{◌≡◌, [], sym, ap, rules}
use Rattle.std.specs.Prelude.{map}
use Rattle.award_file.specs.Fields.{entrant_value}
use Rattle.award_file.proofs.Names.{apart-none}
use Rattle.award_file.proofs.entrants.Entrants.new.Goals as goal

pub invariant_of-result : goal.invariant_of-result
invariant_of-result c =
    let none : c.new.result.entries ≡ [] = search rules in
    apart-none (map entrant_value c.new.result.entries) (ap (map entrant_value) (sym none))
