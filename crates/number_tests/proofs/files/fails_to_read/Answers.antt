use Rattle.cca_base.proofs.Reading.{known_then, known_after}
use Rattle.number_tests.proofs.files.fails_to_read.Goals as goal

pub set-requires : goal.set-requires
set-requires g c = known_then _ _ c.args.name.now c.stops.ensures c.requires.known

pub has_faults-requires : goal.has_faults-requires
has_faults-requires g c =
    known_then _ _ c.args.missing.now c.stops-2.ensures
    (known_after _ _ _ _ _ _ c.args.missing.now c.in_ok-set.ensures.file
    (known_then _ _ c.args.missing.now c.stops.ensures c.requires.missing))

pub has_faults-requires-2 : goal.has_faults-requires-2
has_faults-requires-2 g c =
    known_then _ _ c.args.name.now c.stops-2.ensures
    (known_after _ _ _ _ _ _ c.args.name.now c.in_ok-set.ensures.file
    (known_then _ _ c.args.name.now c.stops.ensures c.requires.known))
