use Rattle.std.proofs.Common.{arith}
use Rattle.book_price.proofs.Worths.{value-most}
use Rattle.book_price.proofs.laws.books_can_be_priced.Goals as goal

pub returns-clause-members : goal.returns-clause-members
returns-clause-members c = λ book kept. omega (arith, kept.bidders)

pub returns-clause-worth : goal.returns-clause-worth
returns-clause-worth c = λ book z kept allowed. value-most book z kept.most allowed
