-- The clauses are fields of what every standing keeps.
use Rattle.auction_rules.proofs.KeptStandings.{IsKept-standing, rounds-some, rounds-first, AreDrafts-drafts, AreDrafts-submitted}
use Rattle.auction_rules.proofs.kept_standings.Goals as goal

pub returns-clause-rounds : goal.returns-clause-rounds
returns-clause-rounds c = λ terms log j. (IsKept-standing terms j log).few

pub returns-clause-some : goal.returns-clause-some
returns-clause-some c = rounds-some

pub returns-clause-first : goal.returns-clause-first
returns-clause-first c = rounds-first

pub returns-clause-eligibility : goal.returns-clause-eligibility
returns-clause-eligibility c = λ terms log j. (IsKept-standing terms j log).falls

pub returns-clause-drafts : goal.returns-clause-drafts
returns-clause-drafts c = AreDrafts-drafts

pub returns-clause-submitted : goal.returns-clause-submitted
returns-clause-submitted c = AreDrafts-submitted
