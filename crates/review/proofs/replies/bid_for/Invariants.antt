-- What is left decides.
use Rattle.std.proofs.Common.{◌≡◌, drop}
use Rattle.auction_model.specs.Book.{bids_of}
use Rattle.review.specs.Edits.{amount_for}
use Rattle.review.proofs.replies.bid_for.Given as goal

abbrev pub invariant-loop-i : goal.invariant-loop-i
invariant-loop-i l = amount_for l.wanted (drop l.i (bids_of l.book l.j)) ≡ amount_for l.wanted (bids_of l.book l.j)
