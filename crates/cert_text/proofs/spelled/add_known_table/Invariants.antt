use Rattle.std.proofs.Common.{◌≡◌, ◌++◌, drop}
use Rattle.cert_grammar.specs.CertText.{table_lines}
use Rattle.cert_text.specs.Written.{bytes_of}
use Rattle.cert_text.proofs.spelled.add_known_table.Given as goal

abbrev pub invariant-loop-i : goal.invariant-loop-i
invariant-loop-i l = l.text ++ bytes_of (table_lines (drop l.i l.part.table)) ≡ l.initial.text ++ bytes_of (table_lines l.part.table)
