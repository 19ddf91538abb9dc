use Rattle.std.proofs.Common.{◌∙◌, string_bytes, map, get_or}
use Rattle.cca_base.proofs.KnownNames.{each-known}
use Rattle.program_tests.proofs.clean.clean_files.Goals as goal

pub returns : goal.returns
returns c = λ k d h. c.in_ok-files.ensures.names (get_or (map string_bytes c.args.words.now) k d) ∙ each-known string_bytes c.args.words.now k d h
