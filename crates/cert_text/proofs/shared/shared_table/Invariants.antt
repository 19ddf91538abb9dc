use Rattle.std.proofs.Common.{◌≡◌, take}
use Rattle.cert_text.proofs.shared.shared_table.Given as goal

-- the first lines
abbrev pub invariant-loop-k : goal.invariant-loop-k
invariant-loop-k l = l.lines ≡ take l.k l.table
