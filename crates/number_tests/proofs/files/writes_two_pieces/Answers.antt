use Rattle.cca_base.proofs.Reading.{known_after}
use Rattle.number_tests.proofs.files.writes_two_pieces.Goals as goal

pub bytes-requires : goal.bytes-requires
bytes-requires g c =
    known_after _ _ _ _ _ _ c.args.name.now c.write_file.ensures.prefix.2 c.requires.known

pub has_faults-requires : goal.has_faults-requires
has_faults-requires g c =
    known_after _ _ _ _ _ _ c.args.name.now c.write_file.ensures.prefix.2 c.requires.known

pub bytes-requires-2 : goal.bytes-requires-2
bytes-requires-2 g c =
    known_after _ _ _ _ _ _ c.args.other.now c.write_file.ensures.prefix.2 c.requires.other
