use Rattle.core_laws.proofs.Rows.{bits-are_row}
use Rattle.core_laws.proofs.Bits.{row-sum}
use Rattle.core_laws.proofs.rows_as_bits.Goals as goal

pub returns-clause-members : goal.returns-clause-members
returns-clause-members c = λ m z p f j some. bits-are_row m z p f j some

pub returns-clause-sums : goal.returns-clause-sums
returns-clause-sums c = λ z at bits. row-sum z at bits
