use Rattle.std.proofs.Common.{◌≡◌, ◌≤◌, ◌-◌, ℕ, List, ◌++◌, length}
use Rattle.line_format.specs.LineText.{IsLine}
use Rattle.cert_stream.specs.Pieces.{between}
use Rattle.cert_stream.specs.LineParts.{IsPart}
use Rattle.cert_stream.proofs.line.read_line.Given as goal

abbrev pub decreases-loop-end : goal.decreases-loop-end
decreases-loop-end l = length l.piece - l.end

abbrev pub invariant-loop-end : goal.invariant-loop-end
invariant-loop-end l = record {
  part : (bytes : List ℕ) → IsPart l.word l.form l.fn.part l.fn.out bytes → IsPart l.word l.form l.part l.out (bytes ++ between l.fn.at l.end l.piece);
  line : IsLine (between l.fn.at l.end l.piece);
  from : l.fn.at ≤ l.end;
  within : l.end ≤ length l.piece;
  room : length l.out ≡ length l.fn.out;
}
