use Rattle.std.proofs.Common.{◌≡◌, length}
use Rattle.cert_grammar.specs.Certificate.{CertValue}
use Rattle.cert_check.specs.Fields.{worth_without}
use Rattle.cert_check.proofs.Written.{AreWritten}
use Rattle.stream_check.specs.Moments.{IsAt}
use Rattle.stream_check.proofs.judging.rows.part_values.Given as goal

abbrev pub invariant-loop-k : goal.invariant-loop-k
invariant-loop-k l = record {
  long : length l.values ≡ 16;
  written : (c : CertValue) → IsAt l.at c → AreWritten (worth_without l.at.book.now c.choice c.withouts) l.values l.k;
}
