use Rattle.std.proofs.Common.{◌++◌, subst}
use Rattle.line_format.specs.LineText.{IsLine}
use Rattle.line_format.proofs.Lines.{line_append}
use Rattle.cert_stream.specs.Pieces.{between}
use Rattle.cert_stream.proofs.Runs.{between_join, part_join}
use Rattle.cert_stream.proofs.line.LinePart.take_front.Goals as goal

pub returns-clause-line : goal.returns-clause-line
returns-clause-line c =
    let mid = c.take_fields-mid.result in
    subst IsLine (between_join c.args.at c.take_fields-mid.result c.take_digits.result c.args.piece.now c.take_fields-mid.ensures.from
    c.take_digits.ensures.from)
    (line_append (between c.args.at mid c.args.piece.now) (between mid c.take_digits.result c.args.piece.now) c.take_fields-mid.ensures.line
    c.take_digits.ensures.digits)

pub returns-clause-part : goal.returns-clause-part
returns-clause-part c = λ word bytes part.
    let mid = c.take_fields-mid.result in
    part_join word c.args.form c.take_digits.new.self c.take_fields-mid.new.out bytes c.args.piece.now c.args.at mid c.take_digits.result
    c.take_fields-mid.ensures.from c.take_digits.ensures.from
    (c.take_digits.ensures.part word c.args.form c.take_fields-mid.new.out (bytes ++ between c.args.at mid c.args.piece.now)
    (c.take_fields-mid.ensures.part word bytes part))
