use Rattle.core_laws.specs.Surplus.{surpluses_of}
use Rattle.core_laws.proofs.Excess.{taken}
use Rattle.core_laws.proofs.Surplus.{surpluses-are}
use Rattle.core_laws.proofs.taken_block.Goals as goal

pub returns : goal.returns
returns c = λ m z p f lawful asks best. taken m lawful z p (surpluses_of m z p.den p.at) (surpluses-are m z p asks) f best
