use Rattle.cca_run.proofs.Ones.{many-six, six-few}
use Rattle.cca_run.proofs.laws.limit_of_ones.Goals as goal

pub returns-clause-few : goal.returns-clause-few
returns-clause-few c = six-few

pub returns-clause-many : goal.returns-clause-many
returns-clause-many c = many-six
