use Rattle.std.proofs.Common.{ap, ◌∙◌, arith}
use Rattle.cert_stream.specs.Forms.{room_for}
use Rattle.cert_stream.proofs.Segments.{in_room}
use Rattle.cert_stream.proofs.room.numbers_span.Goals as goal

pub returns-clause-within : goal.returns-clause-within
returns-clause-within c =
    let width = c.width-width.ensures ∙ ap room_for c.form.ensures in
    omega (arith, in_room c.args.shape.bidders c.args.shape.states c.args.due c.requires, width, c.start-start.ensures)
