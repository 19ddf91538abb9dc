use Rattle.std.proofs.Common.{◌≡◌, subst}
use Rattle.std.specs.Prelude.{unsigned_abs}
use Rattle.cert_stream.specs.declared.line.phase.Phase.{Phase}
use Rattle.cert_stream.specs.Partway.{Partway}
use Rattle.cert_stream.specs.Pieces.{between}
use Rattle.cert_stream.proofs.Runs.{open_on, line_on, digits_line}
use Rattle.cert_stream.proofs.line.LinePart.take_digits.Goals as goal

pub returns-clause-part : goal.returns-clause-part
returns-clause-part c = λ word form out bytes part.
    let ds = between c.args.at c.read_digits-run.result.end c.args.piece.now in
    let now = subst (λ (p : Phase). Partway word part.numbers p bytes) c.in-Digits.is part.partway in
    let some : unsigned_abs now.0 ≡ 0 → ⊥ = λ none. let yes = (c.is_zero.ensures (unsigned_abs now.0) now.1.size).1 none in cc (yes, c.if-is_zero.false) in
    let on = open_on c.in-Digits.negative c.in-Digits.tally c.read_digits-run.result.tally now.0 ds now.1 some c.read_digits-run.ensures.digits
    (c.read_digits-run.ensures.tally (unsigned_abs now.0) now.1.size) in
    record {
      numbers = part.numbers;
      partway = (on.0, on.1, line_on word part.numbers now.0 on.0 bytes ds now.2 on.2);
      keeps = part.keeps;
      begins = part.begins;
    }

pub returns-clause-digits : goal.returns-clause-digits
returns-clause-digits c = digits_line (between c.args.at c.read_digits-run.result.end c.args.piece.now) c.read_digits-run.ensures.digits
