use Rattle.std.proofs.Common.{length}
use Rattle.cca_cli.proofs.words.+can_be_files.Given as goal

abbrev pub decreases-can_be_files : goal.decreases-can_be_files
decreases-can_be_files l = length l.words.now
