use Rattle.std.proofs.Common.{◌≡◌, ◌<◌, ◌^◌}
use Rattle.line_format.specs.Numeral.{numeral}
use Rattle.cert_stream.specs.Pieces.{between}
use Rattle.cert_stream.proofs.line.fields.read_field.Given as goal

abbrev pub invariant-loop-i : goal.invariant-loop-i
invariant-loop-i l = record {
  spelled : between l.fn.at l.i l.piece ≡ numeral l.size;
  low : l.size < 10 ^ 19;
}
