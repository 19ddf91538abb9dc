use Rattle.std.proofs.Common.{◌≡◌, ◌++◌, drop, map}
use Rattle.cert_grammar.specs.CertText.{row_lines}
use Rattle.cert_text.specs.Parts.{row_value}
use Rattle.cert_text.specs.Written.{bytes_of}
use Rattle.cert_text.proofs.write.add_rows.Given as goal

abbrev pub invariant-loop-row : goal.invariant-loop-row
invariant-loop-row l = l.text ++ bytes_of (row_lines (map row_value (drop l.row-index l.rows))) ≡ l.initial.text ++ bytes_of (row_lines (map row_value l.rows))
