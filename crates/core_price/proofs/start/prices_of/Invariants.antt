-- The prices of the singles that were passed.
use Rattle.std.proofs.Common.{◌≡◌, take}
use Rattle.core_price.specs.Rows.{prices_of}
use Rattle.core_price.proofs.start.prices_of.Given as goal

abbrev pub invariant-loop-single : goal.invariant-loop-single
invariant-loop-single l = l.prices.items ≡ prices_of (take l.single-index l.singles)
