use Rattle.std.proofs.Common.{◌≡◌, ◌≤◌}
use Rattle.cert_grammar.specs.Certificate.{CertValue}
use Rattle.cert_grammar.specs.CertText.{IsCertificate, as_numbers}
use Rattle.cert_stream.specs.Dues.{from_part}
use Rattle.cert_stream.specs.LinesLeft.{parts_left}
use Rattle.cert_stream.specs.Order.{NoneFrom}
use Rattle.cert_stream.proofs.next.next_part.Given as goal

abbrev pub invariant-loop-k : goal.invariant-loop-k
invariant-loop-k l = record {
  plan : from_part l.fn.shape.bidders l.fn.shape.states l.choice l.fn.from ≡ from_part l.fn.shape.bidders l.fn.shape.states l.choice l.k;
  left : (c : CertValue) → IsCertificate l.fn.shape.bidders l.fn.shape.states c → l.choice ≡ as_numbers c.choice → parts_left c l.fn.from ≡ parts_left c l.k;
  low : l.fn.from ≤ l.k;
  none : NoneFrom l.choice l.fn.from l.k;
}
