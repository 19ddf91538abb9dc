use Rattle.core_laws.specs.Surplus.{surpluses_of}
use Rattle.core_laws.proofs.Excess.{free-unblocked, unblocked-free, not-below}
use Rattle.core_laws.proofs.Surplus.{surpluses-are}
use Rattle.core_laws.proofs.unblocked_points.Goals as goal

pub returns-clause-free : goal.returns-clause-free
returns-clause-free c = λ m z p f lawful asks best. free-unblocked m lawful z p (surpluses_of m z p.den p.at) (surpluses-are m z p asks) f best

pub returns-clause-only : goal.returns-clause-only
returns-clause-only c = λ m z p f lawful asks best. unblocked-free m lawful z p (surpluses_of m z p.den p.at) (surpluses-are m z p asks) f best

pub returns-clause-least : goal.returns-clause-least
returns-clause-least c = λ m z p f lawful asks best. not-below m lawful z p (surpluses_of m z p.den p.at) (surpluses-are m z p asks) f best
