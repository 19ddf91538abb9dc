use Rattle.std.proofs.Common.{◌≡◌, map, take}
use Rattle.serde_json.specs.View.{view}
use Rattle.print_grammar.specs.Json.{count_json}
use Rattle.outcome.proofs.json_values.package_value.Given as goal

abbrev pub invariant-counts : goal.invariant-counts
invariant-counts l = map view l.values.items ≡ map count_json (take l.count-index l.counts)
