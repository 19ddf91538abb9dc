-- What is true for the book that a desk makes, whichever log led to the desk's state. A list of lines has its newest line
-- first.
use Rattle.std.specs.Prelude.{◌≡◌, ℕ, ◌≤◌, List, None, length}
use Rattle.auction_model.specs.Book.{Book, bids_of}
use Rattle.auction_rules.specs.declared.Event.{Event}
use Rattle.auction_rules.specs.BookOfLog.{bids_in_book}
use Rattle.auction_rules.specs.Caps.{list_fault}
use Rattle.auction_rules.specs.Replies.{admitted, standing}
use Rattle.auction_rules.specs.State.{DeskState, state_of}
use Rattle.auction_rules.specs.Terms.{final_cap}
use Rattle.auction_rules.specs.View.{view}

-- each bid of the book, but one for the bidder's package of the final round, is at most its cap over the book's own bids
abbrev pub AreCapped : DeskState → Book → Type 0
AreCapped desk book = (log : List Event) → desk ≡ state_of desk.terms log → (j : ℕ) → 1 ≤ j → j ≤ length desk.terms.bidders
    → list_fault (final_cap desk.terms) desk.terms.points (standing desk.terms (admitted desk.terms log) j).rounds (bids_of book j) ≡ None

-- a bidder's bids depend only on what it has seen: they are in the book of any other log with the same view
abbrev pub AreOwn : DeskState → Book → Type 0
AreOwn desk book = (log other : List Event) → desk ≡ state_of desk.terms log → (j : ℕ) → 1 ≤ j → j ≤ length desk.terms.bidders
    → view desk.terms j log ≡ view desk.terms j other → bids_of book j ≡ bids_in_book desk.terms other j
