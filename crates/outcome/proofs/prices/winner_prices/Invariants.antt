use Rattle.std.proofs.Common.{take}
use Rattle.outcome.specs.Prices.{AreWinnerPrices}
use Rattle.outcome.specs.Printable.{point_of}
use Rattle.outcome.proofs.prices.winner_prices.Given as goal

abbrev pub invariant-loop-single : goal.invariant-loop-single
invariant-loop-single l = AreWinnerPrices l.book l.facts.choice (point_of l.facts) (take l.single-index l.facts.singles) l.prices.items
