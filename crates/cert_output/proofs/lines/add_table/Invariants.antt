use Rattle.std.proofs.Common.{drop, take}
use Rattle.cert_grammar.specs.CertText.{table_lines}
use Rattle.cert_text.specs.Written.{bytes_of}
use Rattle.cert_output.proofs.Waiting.{IsSoFar}
use Rattle.cert_output.proofs.lines.add_table.Given as goal

abbrev pub invariant-loop-k : goal.invariant-loop-k
invariant-loop-k g l = IsSoFar l.name (g.F.Files.folder l.initial.files) (g.F.Files.folder l.files) (take l.initial.waiting l.initial.room) l.room l.waiting
    (bytes_of (table_lines (drop l.k l.table))) (bytes_of (table_lines l.table))
