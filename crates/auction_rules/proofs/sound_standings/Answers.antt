-- The clauses are fields of what every standing keeps.
use Rattle.auction_rules.proofs.Sound.{IsSound-standing}
use Rattle.auction_rules.proofs.sound_standings.Goals as goal

pub returns-clause-eligible : goal.returns-clause-eligible
returns-clause-eligible c = λ terms log j. (IsSound-standing terms j log).now

pub returns-clause-valid : goal.returns-clause-valid
returns-clause-valid c = λ terms log j. (IsSound-standing terms j log).valid
