use Rattle.std.proofs.Common.{◌<◌, List, sym, subst, arith}
use Rattle.cert_text.specs.declared.certificate.WithoutPart.{WithoutPart}
use Rattle.cert_text.specs.PartReads.{AddsPart}
use Rattle.cert_text.proofs.PartSteps.{part_loser, part_winner}
use Rattle.cert_text.proofs.read.parts.add_part.Goals as goal

pub returns-then-number-eq0-clause-adds : goal.returns-then-number-eq0-clause-adds
returns-then-number-eq0-clause-adds c = part_loser c.args.bytes.now c.args.place c.args.shape.bidders c.args.shape.states c.args.winner c.args.number
    c.args.parts.now (omega (arith, c.if-number-eq0.true))

pub returns-clause-adds : goal.returns-clause-adds
returns-clause-adds c =
    let some : 0 < c.args.number = omega (arith, c.if-number-eq0.false) in
    subst (λ (new : List WithoutPart). AddsPart c.args.bytes.now c.args.place c.args.shape.bidders c.args.shape.states c.args.winner c.args.number
    c.args.parts.now new c.in_ok-read.read.next) (sym c.in_ok-push.ensures.pushed)
    (part_winner c.args.bytes.now c.args.place c.args.shape.bidders c.args.shape.states c.args.winner c.args.number c.args.parts.now c.in_ok-read.read.part
    c.in_ok-read.read.next some
    c.in_ok-read.ensures.leads c.in_ok-read.ensures.part)
