use Rattle.std.proofs.Common.{◌≡◌, ◌≤◌, ◌-◌, ℕ, List, Bool, ◌++◌, length}
use Rattle.line_format.specs.LineText.{IsLine}
use Rattle.cert_stream.specs.declared.line.form.Form.TheVariants.{Signed}
use Rattle.cert_stream.specs.Fields.{after_space}
use Rattle.cert_stream.specs.Pieces.{between}
use Rattle.cert_stream.specs.LineParts.{IsPart}
use Rattle.cert_stream.proofs.line.fields.put_fields.Given as goal

abbrev pub decreases-loop-count : goal.decreases-loop-count
decreases-loop-count l = l.most - l.count

abbrev pub invariant-loop-count : goal.invariant-loop-count
invariant-loop-count l = record {
  part : (word : List ℕ) (beyond : Bool) (bytes : List ℕ) → IsPart word (Signed l.most) (after_space l.fn.count beyond) l.fn.out bytes
      → IsPart word (Signed l.most) (after_space l.count beyond) l.out (bytes ++ between l.fn.at l.end l.piece);
  line : IsLine (between l.fn.at l.end l.piece);
  from : l.fn.at ≤ l.end;
  within : l.end ≤ length l.piece;
  room : length l.out ≡ length l.fn.out;
}
