-- What is printed of a review: a line for the book, a line for each edit, and the winners after the last.
use Rattle.std.specs.Prelude.{◌≡◌, ℕ, suc, List, [], ◌∷◌, ◌++◌, codes}
use Rattle.std.specs.Fmt.{decimal, signed_decimal}
use Rattle.auction_model.specs.Book.{Book, market_of}
use Rattle.auction_model.specs.Greatest.{IsWinning}
use Rattle.auction_model.specs.Market.{value_of}
use Rattle.print_grammar.specs.WinText.{win_text}
use Rattle.review.specs.Edits.{edit_reply, edited}
use Rattle.review.specs.declared.edit.Edit.{Edit}
use Rattle.review.specs.declared.edit.EditReply.{EditReply}
use Rattle.review.specs.declared.edit.EditReply.TheVariants as reply
use Rattle.line_format.specs.Decimals.{decimals_text}

-- a word and a number
abbrev pub worded : List ℕ → ℕ → List ℕ
worded word n = word ++ 32 ∷ decimal n

-- the text of a refusal; an edit that was taken has a line of another form, and out of memory has none
abbrev pub refusal_text : EditReply → List ℕ
refusal_text reply.Ok = []
refusal_text reply.Unknown = codes "unknown"
refusal_text (reply.Supply category) = worded (codes "supply") category
refusal_text reply.Empty = codes "empty"
refusal_text (reply.Present amount) = worded (codes "present") amount
refusal_text reply.Absent = codes "absent"
refusal_text (reply.NotHigher amount) = worded (codes "not-higher") amount
refusal_text (reply.BelowReserve amount) = worded (codes "below-reserve") amount
refusal_text (reply.AmountTop amount) = worded (codes "amount-top") amount
refusal_text (reply.Full count) = worded (codes "full") count
refusal_text reply.Memory = []

-- the line of this number for a book with a choice: the choice's net value and its numbers
abbrev pub state_line : ℕ → Book → List ℕ → List ℕ
state_line n book c = decimal n ++ codes " net " ++ signed_decimal (value_of (market_of book) c) ++ codes " choice" ++ decimals_text c ++ codes "\n"

-- the line of this number for a book, with its winning choice
abbrev pub IsStateLine : ℕ → Book → List ℕ → Type 0
IsStateLine n book line = (c : List ℕ) × IsWinning (market_of book) c × (line ≡ state_line n book c)

-- the line of an edit of this number, by its reply: the state after it, or the text of the refusal
abbrev pub IsReplyLine : EditReply → ℕ → Book → List ℕ → Type 0
IsReplyLine reply.Ok n book line = IsStateLine n book line
IsReplyLine r n book line = line ≡ decimal n ++ 32 ∷ refusal_text r ++ codes "\n"

-- the book after an edit, by its reply: a refused edit changes nothing
abbrev pub book_after_reply : EditReply → Book → Edit → Book
book_after_reply reply.Ok book edit = edited book edit
book_after_reply r book edit = book

abbrev pub book_after : Book → Edit → Book
book_after book edit = book_after_reply (edit_reply book edit) book edit

-- the book after all edits
abbrev pub book_after_all : Book → List Edit → Book
book_after_all book [] = book
book_after_all book (e ∷ es) = book_after_all (book_after book e) es

-- the lines of these edits of a book, after that many others
abbrev pub AreEditLines : ℕ → Book → List Edit → List ℕ → Type 0
AreEditLines before book [] text = text ≡ []
AreEditLines before book (e ∷ es) text =
    (line rest : List ℕ) × IsReplyLine (edit_reply book e) (suc before) (book_after book e) line
    × AreEditLines (suc before) (book_after book e) es rest × (text ≡ line ++ rest)

-- The whole text of the edits of a book: the line of the book as it is, with number 0, the lines of the edits, and the winners of the book
-- after all of them.
pub record IsReviewText (book : Book) (edits : List Edit) (text : List ℕ) : Type 0 where
  pub first : List ℕ
  pub is_first : IsStateLine 0 book first
  pub lines : List ℕ
  pub are_lines : AreEditLines 0 book edits lines
  pub winners : List ℕ
  pub winning : IsWinning (market_of (book_after_all book edits)) winners
  pub whole : text ≡ first ++ lines ++ win_text (book_after_all book edits) winners
