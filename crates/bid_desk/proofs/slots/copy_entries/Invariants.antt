-- The entries so far.
use Rattle.bid_desk.proofs.CopyLaws.{IsCopied}
use Rattle.bid_desk.proofs.slots.copy_entries.Given as goal

abbrev pub invariant-loop-place : goal.invariant-loop-place
invariant-loop-place l = IsCopied l.place l.from l.list.items
