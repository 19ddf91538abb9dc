-- What a review keeps, and what it asks of a bid: words of private contracts.
use Rattle.std.specs.Prelude.{◌≡◌, ℕ, ◌+◌, ◌-◌, ◌≤◌, ◌<◌, IsTrue, List, Option, None, Some, length, slice_index_or, nat_le, nat_lt, if◌then◌else◌, ℤ, pos, ◌+ℤ◌, ◌-ℤ◌, ◌<ℤ◌}
use Rattle.auction_model.specs.Book.{Book, BookBid, market_of}
use Rattle.auction_model.specs.Greatest.{IsWinning}
use Rattle.auction_model.specs.Market.{value_of}
use Rattle.auction_model.specs.Package.{cost_of, is_within, less}
use Rattle.auction_model.specs.Place.{left_at, place_of, states_of}
use Rattle.value_table.specs.LineBuffers.{HasRoom}
use Rattle.value_table.specs.SideLines.{IsLeftLine, IsRightLine}
use Rattle.review.specs.ReviewValue.{AreLeftLines, AreRightLines, lines_of}
use Rattle.review.specs.declared.lines.SideLines.{SideLines}

-- the lines are the book's, except for the stale ones
pub record AreSideLines (book : Book) (lines : SideLines) : Type 0 where
  pub from : lines.right_from ≤ length book.bidders
  pub to : lines.left_to ≤ length book.bidders
  pub after : AreRightLines book lines.right_from (lines_of lines.right.items)
  pub before : AreLeftLines book lines.left_to (lines_of lines.left.items)
  pub buffers : HasRoom (states_of book.supply) lines.buffers

-- the choice is the winning one
pub record IsReviewed (book : Book) (lines : SideLines) (choice : List ℕ) : Type 0 where
  pub winning : IsWinning (market_of book) choice
  pub sides : AreSideLines book lines

-- if the package fits at a place, the best of both sides around it are together below the limit
abbrev pub IsBelowAt : List ℕ → List ℕ → List ℤ → List ℤ → ℤ → ℕ → Type 0
IsBelowAt supply lots before after limit s = IsTrue (is_within lots (left_at supply s))
    → (slice_index_or before (states_of supply - 1 - s) (pos 0)
    +ℤ slice_index_or after (place_of supply (less (left_at supply s) lots)) (pos 0)) <ℤ limit

-- they are below the limit at each place
abbrev pub AreBelow : List ℕ → List ℕ → List ℤ → List ℤ → ℤ → Type 0
AreBelow supply lots before after limit = (s : ℕ) → s < states_of supply → IsBelowAt supply lots before after limit s

-- whatever goes with such a bid of bidder j, the choice is worth more
pub record IsBeaten (book : Book) (choice : List ℕ) (j : ℕ) (bid : BookBid) : Type 0 where
  pub before : List ℤ
  pub after : List ℤ
  pub left : IsLeftLine book (j - 1) before
  pub right : IsRightLine book j after
  pub below : AreBelow book.supply bid.lots before after
      (value_of (market_of book) choice -ℤ (pos bid.amount -ℤ pos (cost_of book.reserves bid.lots)))

-- the number of a bid, if bid `put` was put in
abbrev pub moved_up : ℕ → ℕ → ℕ
moved_up put number = if nat_le put number then number + 1 else number

-- the number of a bid, if bid `gone` was taken out
abbrev pub moved_down : ℕ → ℕ → ℕ
moved_down gone number = if nat_lt gone number then number - 1 else number

-- the amount of the present bid is at most this
abbrev pub IsHigher : Option ℕ → ℕ → Type 0
IsHigher None amount = Unit {0}
IsHigher (Some was) amount = was ≤ amount
