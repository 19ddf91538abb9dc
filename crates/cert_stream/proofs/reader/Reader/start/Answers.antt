use Rattle.std.proofs.Common.{[]}
use Rattle.cert_stream.specs.Dues.{word_of}
use Rattle.cert_stream.specs.Rooms.{form_due}
use Rattle.cert_stream.specs.declared.due.NextLine.TheVariants.{Version}
use Rattle.cert_stream.proofs.Standing.{at_first}
use Rattle.cert_stream.proofs.reader.Reader.start.Goals as goal

pub returns-clause-stands : goal.returns-clause-stands
returns-clause-stands c = λ room. (
  [],
  at_first c.args.shape.bidders c.args.shape.states c.new.result room
      (λ out. c.new.ensures (word_of Version) (form_due c.args.shape.bidders c.args.shape.states Version) out),
)

pub returns-clause-fresh : goal.returns-clause-fresh
returns-clause-fresh c = λ room. at_first c.args.shape.bidders c.args.shape.states c.new.result room
    (λ out. c.new.ensures (word_of Version) (form_due c.args.shape.bidders c.args.shape.states Version) out)
