use Rattle.std.proofs.Common.{◌≡◌, ◌++◌, take}
use Rattle.cca_cli.proofs.line.add.Given as goal

abbrev pub invariant-loop-b : goal.invariant-loop-b
invariant-loop-b l = l.line.items ≡ l.initial.line.items ++ take l.b-index l.piece
