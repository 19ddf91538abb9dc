use Rattle.std.proofs.Common.{◌≡◌, ◌<◌, ◌^◌, ℕ}
use Rattle.wide_num.proofs.Decimal.{AreDigits, read_on}
use Rattle.cert_stream.specs.Tallies.{IsTally}
use Rattle.cert_stream.specs.Pieces.{between}
use Rattle.cert_stream.proofs.line.digits.read_digits.Given as goal

abbrev pub invariant-loop-i : goal.invariant-loop-i
invariant-loop-i l = record {
  digits : AreDigits (between l.fn.at l.i l.piece);
  size : (value : ℕ) → IsTally l.fn.tally value → l.size ≡ read_on value (between l.fn.at l.i l.piece);
  low : l.size < 10 ^ 19;
}
