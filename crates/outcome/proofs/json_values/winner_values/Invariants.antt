use Rattle.std.proofs.Common.{◌≡◌, map, take}
use Rattle.serde_json.specs.View.{view}
use Rattle.outcome.specs.Json.{winner_data}
use Rattle.outcome.proofs.json_values.winner_values.Given as goal

abbrev pub invariant-prices : goal.invariant-prices
invariant-prices l = map view l.values.items ≡ map (winner_data l.book) (take l.price-index l.prices)
