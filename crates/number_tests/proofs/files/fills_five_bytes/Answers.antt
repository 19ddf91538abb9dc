use Rattle.cca_base.proofs.Reading.{known_then}
use Rattle.number_tests.proofs.files.fills_five_bytes.Goals as goal
use Rattle.cca_base.specs.CleanFiles.{clean_folder}
use Rattle.std.proofs.Common.{rules, IsTrue}

pub has_faults-requires : goal.has_faults-requires
has_faults-requires g c =
    let before : IsTrue ((clean_folder c.append-3.new.self.files.items).knows c.args.name.now) = search rules in
    known_then _ _ c.args.name.now c.has_whole.ensures before
