-- The edits of a book have one text.
use Rattle.std.proofs.Common.{◌≡◌, ℕ, suc, ◌+◌, ◌-◌, ◌≤◌, ◌<◌, ◌^◌, List, [], ◌∷◌, ◌++◌, length, refl, sym, ap, subst, ◌∙◌, arith}
use Rattle.std.specs.Prelude.{pos, ◌≤ℤ◌}
use Rattle.std.specs.List.{AllByRecursion}
use Rattle.auction_model.specs.Book.{Book, bids_of, market_of, net_of}
use Rattle.auction_model.specs.Greatest.{IsWinning}
use Rattle.auction_model.specs.Lawful.{IsMarket}
use Rattle.auction_model.specs.Market.{Market}
use Rattle.bid_book.proofs.PutLaws.{book-order, less-within, put-within}
use Rattle.bid_book.proofs.Within.{kept}
use Rattle.bid_book.specs.Changes.{with_bids}
use Rattle.book_grammar.specs.BookLines.{IsBookWithinLimits}
use Rattle.print_grammar.specs.WinText.{win_text}
use Rattle.review.proofs.RemoveLaws.{without-removed}
use Rattle.review.proofs.ReplyLaws.{add-can, amount-bid, raise-can, remove-has}
use Rattle.review.specs.Edits.{edit_lots, edit_reply, edited}
use Rattle.review.specs.declared.edit.Edit.{Edit}
use Rattle.review.specs.declared.edit.Edit.TheVariants.{Add, Raise, Remove}
use Rattle.review.specs.declared.edit.EditReply.{EditReply}
use Rattle.review.specs.declared.edit.EditReply.TheVariants as reply
use Rattle.outcome.specs.ReviewText.{AreEditLines, IsReplyLine, IsReviewText, IsStateLine, book_after, book_after_all, book_after_reply, state_line}
use Rattle.outcome.proofs.ReviewLines.{behind_supply}

-- an edit that has the reply Ok keeps the rules of a book
edited-within : (book : Book) (e : Edit) → IsBookWithinLimits book → length (edit_lots e) ≡ length book.supply → edit_reply book e ≡ reply.Ok
    → IsBookWithinLimits (edited book e)
edited-within book (Add j lots amount) is count ok = put-within book j (record { lots = lots; amount = amount }) is (add-can book j lots amount count ok)
edited-within book (Raise j lots amount) is count ok = put-within book j (record { lots = lots; amount = amount }) is
    (raise-can book j lots amount (kept book is) count ok)
edited-within book (Remove j lots) is count ok =
    let has = remove-has book j lots ok in
    let at = amount-bid (bids_of book j) lots has.1.0 has.1.1 in
    let down : at.place + 1 - 1 ≡ at.place = omega arith in
    let taken = rw down at (less-within book j (at.place + 1) is has.0.some has.0.known (omega arith) (let inside = at.inside in omega (arith, inside))) in
    subst (λ bids. IsBookWithinLimits (with_bids book j bids)) (sym (without-removed (bids_of book j) lots at.place
    (book-order book j is has.0.some has.0.known) at.inside at.own)) taken

-- and so does each edit
behind-within : (book : Book) (e : Edit) → IsBookWithinLimits book → length (edit_lots e) ≡ length book.supply → IsBookWithinLimits (book_after book e)
behind-within book e is count = by_reply (edit_reply book e) refl
  where
    by_reply : (r : EditReply) → edit_reply book e ≡ r → IsBookWithinLimits (book_after_reply r book e)
    by_reply reply.Ok same = edited-within book e is count same
    by_reply reply.Unknown same = is
    by_reply (reply.Supply category) same = is
    by_reply reply.Empty same = is
    by_reply (reply.Present amount) same = is
    by_reply reply.Absent same = is
    by_reply (reply.NotHigher amount) same = is
    by_reply (reply.BelowReserve amount) same = is
    by_reply (reply.AmountTop amount) same = is
    by_reply (reply.Full count) same = is
    by_reply reply.Memory same = is

-- the packages have a count for each category of the book
abbrev pub AreCounted : Book → List Edit → Type 0
AreCounted book edits = AllByRecursion (λ (e : Edit). length (edit_lots e) ≡ length book.supply) edits

counted-behind : (book : Book) (e : Edit) (edits : List Edit) → AreCounted book edits → AreCounted (book_after book e) edits
counted-behind book e edits are = subst (λ (supply : List ℕ). AllByRecursion (λ (d : Edit). length (edit_lots d) ≡ length supply) edits)
    (sym (behind_supply book e)) are

all-within : (book : Book) (edits : List Edit) → IsBookWithinLimits book → AreCounted book edits → IsBookWithinLimits (book_after_all book edits)
all-within book [] is are = is
all-within book (e ∷ edits) is are = all-within (book_after book e) edits (behind-within book e is are.0) (counted-behind book e edits are.1)

module _ (choices : (m : Market) (c d : List ℕ) → IsMarket m → IsWinning m c → IsWinning m d → c ≡ d)
    (markets : (book : Book) → length book.bidders < 2 ^ 16 → ((j i : ℕ) → i ≤ length (bids_of book j) → pos 0 ≤ℤ net_of book j i)
    → IsMarket (market_of book)) where
  one-choice : (book : Book) (c d : List ℕ) → IsBookWithinLimits book → IsWinning (market_of book) c → IsWinning (market_of book) d → c ≡ d
  one-choice book c d is x y =
      let all = kept book is in
      let few = all.bidders in
      choices (market_of book) c d (markets book (omega (arith, few)) all.not_negative) x y

  one-state : (n : ℕ) (book : Book) (a b : List ℕ) → IsBookWithinLimits book → IsStateLine n book a → IsStateLine n book b → a ≡ b
  one-state n book a b is x y = x.2 ∙ ap (state_line n book) (one-choice book x.0 y.0 is x.1 y.1) ∙ sym y.2

  one-reply : (r : EditReply) (n : ℕ) (book : Book) (a b : List ℕ) → IsBookWithinLimits book → IsReplyLine r n book a → IsReplyLine r n book b → a ≡ b
  one-reply reply.Ok n book a b is x y = one-state n book a b is x y
  one-reply reply.Unknown n book a b is x y = x ∙ sym y
  one-reply (reply.Supply category) n book a b is x y = x ∙ sym y
  one-reply reply.Empty n book a b is x y = x ∙ sym y
  one-reply (reply.Present amount) n book a b is x y = x ∙ sym y
  one-reply reply.Absent n book a b is x y = x ∙ sym y
  one-reply (reply.NotHigher amount) n book a b is x y = x ∙ sym y
  one-reply (reply.BelowReserve amount) n book a b is x y = x ∙ sym y
  one-reply (reply.AmountTop amount) n book a b is x y = x ∙ sym y
  one-reply (reply.Full count) n book a b is x y = x ∙ sym y
  one-reply reply.Memory n book a b is x y = x ∙ sym y

  one-lines : (before : ℕ) (book : Book) (edits : List Edit) (a b : List ℕ) → IsBookWithinLimits book → AreCounted book edits
      → AreEditLines before book edits a → AreEditLines before book edits b → a ≡ b
  one-lines before book [] a b is are x y = x ∙ sym y
  one-lines before book (e ∷ edits) a b is are (p, q, x, xs, whole) (s, t, y, ys, other) =
      let next = behind-within book e is are.0 in
      let first = one-reply (edit_reply book e) (suc before) (book_after book e) p s next x y in
      let rest = one-lines (suc before) (book_after book e) edits q t next (counted-behind book e edits are.1) xs ys in
      whole ∙ (λ i. first i ++ rest i) ∙ sym other

  -- edits of a book within its limits have one text, if each has a count for each category
  pub one-text : (book : Book) (edits : List Edit) (a b : List ℕ) → IsBookWithinLimits book → AreCounted book edits → IsReviewText book edits a
      → IsReviewText book edits b → a ≡ b
  one-text book edits a b is are x y =
      let first = one-state 0 book x.first y.first is x.is_first y.is_first in
      let lines = one-lines 0 book edits x.lines y.lines is are x.are_lines y.are_lines in
      let winners = one-choice (book_after_all book edits) x.winners y.winners (all-within book edits is are) x.winning y.winning in
      x.whole ∙ (λ i. first i ++ lines i ++ win_text (book_after_all book edits) (winners i)) ∙ sym y.whole
