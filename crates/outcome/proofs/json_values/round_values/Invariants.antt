use Rattle.std.proofs.Common.{List, ◌++◌, drop, map}
use Rattle.serde_json.specs.Data.{Data}
use Rattle.serde_json.specs.View.{view}
use Rattle.core_price.specs.Turns.{turns_of}
use Rattle.print_grammar.specs.Json.{AreRounds}
use Rattle.outcome.proofs.json_values.round_values.Given as goal

abbrev pub invariant-loop-i : goal.invariant-loop-i
invariant-loop-i l = (rest : List Data) → AreRounds l.winners l.i (turns_of l.winners (drop l.i l.turns)) rest
    → AreRounds l.winners 0 (turns_of l.winners l.turns) (map view l.values.items ++ rest)
