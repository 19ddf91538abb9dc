use Rattle.placement_check.proofs.Verdicts.{one_verdict, not_both}
use Rattle.placement_check.proofs.laws.one_place_verdict.Goals as goal

pub returns-clause-one : goal.returns-clause-one
returns-clause-one c = λ slots p t place u q f g. one_verdict slots p t place u q f g

pub returns-clause-not_both : goal.returns-clause-not_both
returns-clause-not_both c = λ slots p t place h f. not_both slots p t place h f
