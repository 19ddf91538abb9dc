use Rattle.core_laws.proofs.Blocks.{block-row, row-is_new, core-meets}
use Rattle.core_laws.proofs.Some.{some-member}
use Rattle.core_laws.proofs.rows_of_blocks.Goals as goal

pub returns-clause-some : goal.returns-clause-some
returns-clause-some c = λ m z p f members excess lawful win positive taken above. some-member m lawful z win p positive f members excess taken above

pub returns-clause-given : goal.returns-clause-given
returns-clause-given c = λ m z p f row excess positive taken members is. block-row m z p positive f row excess taken members is

pub returns-clause-new : goal.returns-clause-new
returns-clause-new c = λ m z den at bits old c f excess len positive given meets taken above. row-is_new m z len den at positive bits old c f excess given
    meets taken above

pub returns-clause-met : goal.returns-clause-met
returns-clause-met c = λ m z q row c lawful len core given. core-meets m lawful z len q core row c given
