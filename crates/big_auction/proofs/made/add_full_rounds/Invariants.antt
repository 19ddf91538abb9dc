use Rattle.std.proofs.Common.{◌≡◌, ◌++◌, map}
use Rattle.big_auction.specs.LogText.{log_text}
use Rattle.big_auction.specs.Parts.{counts_of, full_rounds_for}
use Rattle.big_auction.proofs.made.add_full_rounds.Given as goal

abbrev pub invariant-loop-round : goal.invariant-loop-round
invariant-loop-round l = l.text ≡ l.initial.text ++ log_text (full_rounds_for (map counts_of l.packages) l._round)
