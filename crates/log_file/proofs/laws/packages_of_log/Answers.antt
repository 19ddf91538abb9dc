use Rattle.log_file.proofs.Categories.{all-packages}
use Rattle.log_file.proofs.laws.packages_of_log.Goals as goal

pub returns : goal.returns
returns c = λ terms rows events log. all-packages terms rows events log.0
