-- The greatest common divisor of the start and the numbers that were passed.
use Rattle.core_price.proofs.Divisors.{IsCommon}
use Rattle.core_price.proofs.reduce.common_divisor.Given as goal

abbrev pub invariant-loop-number : goal.invariant-loop-number
invariant-loop-number l = IsCommon l.fn.start l.numbers l.number-index l.divisor
