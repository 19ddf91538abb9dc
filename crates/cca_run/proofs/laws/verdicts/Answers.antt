use Rattle.cca_run.proofs.VerdictLaws.{checked, place-checked, placed, priced, reviewed, weigh-checked, weighed}
use Rattle.cca_run.proofs.laws.verdicts.Goals as goal

pub returns-clause-checked : goal.returns-clause-checked
returns-clause-checked c = checked c.plain_outcome.ensures

pub returns-clause-priced : goal.returns-clause-priced
returns-clause-priced c = priced c.plain_outcome.ensures

pub returns-clause-weigh_checked : goal.returns-clause-weigh_checked
returns-clause-weigh_checked c = weigh-checked

pub returns-clause-place_checked : goal.returns-clause-place_checked
returns-clause-place_checked c = place-checked

pub returns-clause-weighed : goal.returns-clause-weighed
returns-clause-weighed c = weighed

pub returns-clause-placed : goal.returns-clause-placed
returns-clause-placed c = placed

pub returns-clause-reviewed : goal.returns-clause-reviewed
returns-clause-reviewed c = reviewed
