use Rattle.std.proofs.Common.{◌≡◌, ◌++◌, drop}
use Rattle.outcome.specs.Prices.{lines_of}
use Rattle.outcome.proofs.lines.add_prices.Given as goal

abbrev pub invariant-loop-price : goal.invariant-loop-price
invariant-loop-price l = l.text ++ lines_of l.book (drop l.price-index l.prices) ≡ l.initial.text ++ lines_of l.book l.prices
