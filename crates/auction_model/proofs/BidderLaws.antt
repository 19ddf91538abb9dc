-- The laws of a line, by the number of the bidder whose bids are counted: line j - 1 from line j.
use Rattle.std.specs.Prelude.{◌≡◌, ℕ, zero, suc, ◌+◌, ◌-◌, ◌≤◌, ◌<◌, List, [], length, get_or, ℤ, pos, ◌+ℤ◌}
use Rattle.std.proofs.Common.{arith}
use Rattle.auction_model.specs.Menu.{Menu}
use Rattle.auction_model.specs.Table.{IsLine}
use Rattle.auction_model.specs.Steps.{raised}
use Rattle.auction_model.proofs.LineLaws.{IsLineUpTo, line-none, line-more, line-all}

module _ (m : Menu) (counts : ℕ → ℕ → ℤ) (supply : List ℕ) (j : ℕ) (some : zero < j) where
  next : suc (j - 1) ≡ j
  next = omega arith

  -- line j plus what bidder j counts idle is line j - 1 with none of its bids counted
  pub bidder-none : (below line : List ℤ) (idle : ℤ) → idle ≡ counts j 0 → m.lots j 0 ≡ [] → IsLine m counts supply j below → length line ≡ length below
      → ((s : ℕ) → s < length below → get_or line s (pos 0) ≡ get_or below s (pos 0) +ℤ idle) → IsLineUpTo m counts supply (j - 1) 0 line
  bidder-none below line idle is none e places reads =
      line-none m counts supply (j - 1) below line idle (rw next is) (rw next none) (rw next e) places reads

  -- a line raised at each place by bid i + 1 of bidder j counts that bid too
  pub bidder-more : (i : ℕ) (below old new : List ℤ) → IsLine m counts supply j below → IsLineUpTo m counts supply (j - 1) i old → length new ≡ length old
      → ((s : ℕ) → s < length old → get_or new s (pos 0) ≡ raised supply below (m.lots j (i + 1)) (counts j (i + 1)) s (get_or old s (pos 0)))
      → IsLineUpTo m counts supply (j - 1) (i + 1) new
  bidder-more i below old new e was places reads =
      let up : i + 1 ≡ suc i = omega arith in
      rw up (line-more m counts supply (j - 1) i below old new (rw next e) was places (λ s h. rw next (rw up at (reads s h))))

  -- with all bids of bidder j counted the line is line j - 1
  pub bidder-all : (line : List ℤ) → j ≤ m.bidders → IsLineUpTo m counts supply (j - 1) (m.bids j) line → IsLine m counts supply (j - 1) line
  bidder-all line inside was = line-all m counts supply (j - 1) line (omega arith) (rw next was)
