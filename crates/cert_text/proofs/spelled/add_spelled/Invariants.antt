use Rattle.std.proofs.Common.{◌≡◌, ◌++◌, drop}
use Rattle.std.specs.List.{concat}
use Rattle.cert_text.proofs.spelled.add_spelled.Given as goal

abbrev pub invariant-loop-line : goal.invariant-loop-line
invariant-loop-line l = l.text ++ concat (drop l.line-index l.spelled) ≡ l.initial.text ++ concat l.spelled
