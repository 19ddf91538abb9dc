use Rattle.cca_base.proofs.Reading.{known_then, known_after}
use Rattle.number_tests.proofs.files.reads_three_pieces.Goals as goal

pub stops-requires-clause-known : goal.stops-requires-clause-known
stops-requires-clause-known g c =
    known_then _ _ c.args.name.now c.has_whole.ensures (known_after _ _ _ _ _ _ c.args.name.now c.in_ok-set.ensures.file c.requires)

pub has_faults-requires : goal.has_faults-requires
has_faults-requires g c =
    known_then _ _ c.args.name.now c.stops.ensures
    (known_then _ _ c.args.name.now c.has_whole.ensures (known_after _ _ _ _ _ _ c.args.name.now c.in_ok-set.ensures.file c.requires))
