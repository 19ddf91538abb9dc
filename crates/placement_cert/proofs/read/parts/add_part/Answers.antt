use Rattle.std.proofs.Common.{◌<◌, List, sym, subst, arith}
use Rattle.placement_cert.specs.declared.certificate.PlaceWithout.{PlaceWithout}
use Rattle.placement_cert.specs.PlaceReads.{AddsPart}
use Rattle.placement_cert.proofs.PartSteps.{part_loser, part_winner}
use Rattle.placement_cert.proofs.read.parts.add_part.Goals as goal

pub returns-then-number-eq0-clause-adds : goal.returns-then-number-eq0-clause-adds
returns-then-number-eq0-clause-adds c = part_loser c.args.bytes.now c.args.place c.args.bidders c.args.winner c.args.number c.args.parts.now
    (omega (arith, c.if-number-eq0.true))

pub returns-clause-adds : goal.returns-clause-adds
returns-clause-adds c =
    let some : 0 < c.args.number = omega (arith, c.if-number-eq0.false) in
    subst (λ (new : List PlaceWithout). AddsPart c.args.bytes.now c.args.place c.args.bidders c.args.winner c.args.number c.args.parts.now new
    c.in_ok-read.read.next) (sym c.in_ok-push.ensures.pushed)
    (part_winner c.args.bytes.now c.args.place c.args.bidders c.args.winner c.args.number c.args.parts.now c.in_ok-read.read.part c.in_ok-read.read.next some
    c.in_ok-read.ensures.leads c.in_ok-read.ensures.part)
