use Rattle.std.proofs.Common.{◌≡◌, ◌++◌, drop}
use Rattle.cert_text.specs.Written.{bytes_of}
use Rattle.placement_cert.specs.PlaceReads.{row_lines}
use Rattle.placement_cert.proofs.write.add_payments.Given as goal

abbrev pub invariant-loop-row : goal.invariant-loop-row
invariant-loop-row l = l.text ++ bytes_of (row_lines (drop l.row-index l.rows)) ≡ l.initial.text ++ bytes_of (row_lines l.rows)
