use Rattle.cca_base.proofs.Reading.{known_after}
use Rattle.number_tests.proofs.files.writes_twice.Goals as goal

pub bytes-requires : goal.bytes-requires
bytes-requires g c =
    known_after _ _ _ _ _ _ c.args.name.now c.write_file.ensures.prefix.2 c.requires

pub write_file-requires-2 : goal.write_file-requires-2
write_file-requires-2 g c =
    known_after _ _ _ _ _ _ c.args.name.now c.write_file.ensures.prefix.2 c.requires
