use Rattle.std.proofs.Common.{◌≡◌, ◌++◌, map}
use Rattle.big_auction.specs.LogText.{log_text}
use Rattle.big_auction.specs.Parts.{counts_of, last_bids_for}
use Rattle.big_auction.proofs.made.add_last_bids.Given as goal

abbrev pub invariant-loop-k : goal.invariant-loop-k
invariant-loop-k l = l.text ≡ l.initial.text ++ log_text (last_bids_for (map counts_of l.packages) l.k)
