use Rattle.std.proofs.Common.{negsuc, refl}
use Rattle.number_tests.proofs.wide_numbers.divisors.Goals as goal

pub div_exact-requires-clause-divides : goal.div_exact-requires-clause-divides
div_exact-requires-clause-divides g c = (negsuc 2, refl)
