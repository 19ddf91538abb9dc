use Rattle.std.proofs.Common.{map}
use Rattle.big_auction.specs.Parts.{counts_of, figures_of}
use Rattle.big_auction.proofs.MadeLines.{IsSealed}
use Rattle.big_auction.proofs.made.add_sealed_lines.Given as goal

abbrev pub invariant-loop-k : goal.invariant-loop-k
invariant-loop-k l = IsSealed l.initial.draws.state (figures_of l.prices) (map counts_of l.packages) l.k l.draws.state l.initial.text l.text
