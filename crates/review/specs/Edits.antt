-- Edits of a book: the reply to each, and the edited book.
use Rattle.std.specs.Prelude.{ℕ, Bool, not, ◌&&◌, nat_le, nat_lt, Option, Some, None, List, [], ◌∷◌, length, if◌then◌else◌}
use Rattle.auction_model.specs.Book.{Book, BookBid, bids_of}
use Rattle.auction_model.specs.Package.{cost_of}
use Rattle.auction_model.specs.Entries.{without_entry}
use Rattle.auction_model.specs.PackageTests.{first_over, is_empty, is_same}
use Rattle.bid_book.specs.Changes.{with_bids, with_put}
use Rattle.limits.specs.declared.TheConstants.{MOST_AMOUNT, MOST_BIDS}
use Rattle.review.specs.declared.edit.Edit.{Edit}
use Rattle.review.specs.declared.edit.Edit.TheVariants.{Add, Raise, Remove}
use Rattle.review.specs.declared.edit.EditReply.{EditReply}
use Rattle.review.specs.declared.edit.EditReply.TheVariants as reply

-- the package of an edit
abbrev pub edit_lots : Edit → List ℕ
edit_lots (Add bidder lots amount) = lots
edit_lots (Raise bidder lots amount) = lots
edit_lots (Remove bidder lots) = lots

-- its bidder
abbrev pub edit_bidder : Edit → ℕ
edit_bidder (Add bidder lots amount) = bidder
edit_bidder (Raise bidder lots amount) = bidder
edit_bidder (Remove bidder lots) = bidder

-- the amount that the bidder has for the package then, if it has a bid for it
abbrev pub edit_amount : Edit → Option ℕ
edit_amount (Add bidder lots amount) = Some amount
edit_amount (Raise bidder lots amount) = Some amount
edit_amount (Remove bidder lots) = None

-- the amount of the bid for the package
abbrev pub amount_for : List ℕ → List BookBid → Option ℕ
amount_for lots [] = None
amount_for lots (b ∷ bids) = if is_same b.lots lots then Some b.amount else amount_for lots bids

-- the first reply whose condition is true, and Ok if none is
abbrev pub first_reply : List (Option EditReply) → EditReply
first_reply [] = reply.Ok
first_reply (None ∷ rest) = first_reply rest
first_reply (Some r ∷ rest) = r

abbrev pub when : Bool → EditReply → Option EditReply
when holds r = if holds then Some r else None

-- the conditions, each with its reply
abbrev pub unknown : Book → ℕ → Option EditReply
unknown book j = when (not (nat_lt 0 j && nat_le j (length book.bidders))) reply.Unknown

-- categories are numbered from 1
abbrev pub supply_reply : Option ℕ → Option EditReply
supply_reply None = None
supply_reply (Some category) = Some (reply.Supply category)

abbrev pub present : Option ℕ → Option EditReply
present None = None
present (Some amount) = Some (reply.Present amount)

abbrev pub absent : Option ℕ → Option EditReply
absent None = Some reply.Absent
absent (Some amount) = None

abbrev pub not_higher : ℕ → Option ℕ → Option EditReply
not_higher amount None = None
not_higher amount (Some was) = when (nat_le amount was) (reply.NotHigher was)

abbrev pub below_reserve : Book → List ℕ → ℕ → Option EditReply
below_reserve book lots amount = when (nat_lt amount (cost_of book.reserves lots)) (reply.BelowReserve (cost_of book.reserves lots))

abbrev pub amount_top : ℕ → Option EditReply
amount_top amount = when (nat_lt MOST_AMOUNT amount) (reply.AmountTop MOST_AMOUNT)

abbrev pub full : List BookBid → Option EditReply
full bids = when (nat_le MOST_BIDS (length bids)) (reply.Full MOST_BIDS)

-- the first refusal of a list, if there is one
abbrev pub first_refusal : List (Option EditReply) → Option EditReply
first_refusal [] = None
first_refusal (None ∷ rest) = first_refusal rest
first_refusal (Some r ∷ rest) = Some r

-- why no edit of bidder j for these lots can be had
abbrev pub unfit : Book → ℕ → List ℕ → Option EditReply
unfit book j lots = first_refusal (unknown book j ∷ supply_reply (first_over 1 lots book.supply) ∷ when (is_empty lots) reply.Empty ∷ [])

-- the reply to an edit of this book: Ok if the book can have it
abbrev pub edit_reply : Book → Edit → EditReply
edit_reply book (Add j lots amount) = first_reply (
    unfit book j lots
    ∷ present (amount_for lots (bids_of book j))
    ∷ below_reserve book lots amount
    ∷ amount_top amount
    ∷ full (bids_of book j)
    ∷ [])
edit_reply book (Raise j lots amount) = first_reply (
    unfit book j lots
    ∷ absent (amount_for lots (bids_of book j))
    ∷ not_higher amount (amount_for lots (bids_of book j))
    ∷ amount_top amount
    ∷ [])
edit_reply book (Remove j lots) = first_reply (
    unfit book j lots
    ∷ absent (amount_for lots (bids_of book j))
    ∷ [])

-- the book with an edit that it can have
abbrev pub edited : Book → Edit → Book
edited book (Add j lots amount) = with_put book j (record { lots = lots; amount = amount })
edited book (Raise j lots amount) = with_put book j (record { lots = lots; amount = amount })
edited book (Remove j lots) = with_bids book j (without_entry lots (bids_of book j))
