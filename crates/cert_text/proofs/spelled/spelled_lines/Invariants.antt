use Rattle.std.proofs.Common.{◌≡◌, map, take}
use Rattle.cert_text.specs.Written.{line_bytes}
use Rattle.cert_text.proofs.spelled.spelled_lines.Given as goal

abbrev pub invariant-loop-i : goal.invariant-loop-i
invariant-loop-i l = l.lines.items ≡ map line_bytes (take l.i l.table)
