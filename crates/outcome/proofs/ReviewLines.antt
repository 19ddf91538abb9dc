-- What the lines of edits add to a text.
use Rattle.std.proofs.Common.{◌≡◌, ℕ, suc, ◌+◌, ◌≤◌, ◌<◌, List, [], ◌∷◌, ◌++◌, length, get_or, drop, refl, sym, ap, subst, ◌∙◌, arith, append_assoc, drop-cons}
use Rattle.std.proofs.lemmas.List.{append-nil, drop_all}
use Rattle.auction_model.specs.Book.{Book, market_of}
use Rattle.auction_model.specs.Greatest.{IsWinning}
use Rattle.print_grammar.specs.WinText.{win_text}
use Rattle.review.specs.Edits.{edit_reply}
use Rattle.review.specs.declared.edit.Edit.{Edit}
use Rattle.review.specs.declared.edit.Edit.TheVariants.{Add, Raise, Remove}
use Rattle.review.specs.declared.edit.EditReply.{EditReply}
use Rattle.review.specs.declared.edit.EditReply.TheVariants as reply
use Rattle.outcome.specs.ReviewText.{AreEditLines, IsReplyLine, IsReviewText, IsStateLine, book_after, book_after_all, book_after_reply}

-- the book after an edit has the supply of the book before it
pub behind_supply : (book : Book) (e : Edit) → (book_after book e).supply ≡ book.supply
behind_supply book e = by_reply (edit_reply book e) e
  where
    by_edit : (e : Edit) → (book_after_reply reply.Ok book e).supply ≡ book.supply
    by_edit (Add j lots amount) = refl
    by_edit (Raise j lots amount) = refl
    by_edit (Remove j lots) = refl

    by_reply : (r : EditReply) (e : Edit) → (book_after_reply r book e).supply ≡ book.supply
    by_reply reply.Ok e = by_edit e
    by_reply reply.Unknown e = refl
    by_reply (reply.Supply category) e = refl
    by_reply reply.Empty e = refl
    by_reply (reply.Present amount) e = refl
    by_reply reply.Absent e = refl
    by_reply (reply.NotHigher amount) e = refl
    by_reply (reply.BelowReserve amount) e = refl
    by_reply (reply.AmountTop amount) e = refl
    by_reply (reply.Full count) e = refl
    by_reply reply.Memory e = refl

-- The first edits have been taken: the book after them, and the text so far. Whatever lines go on from here make all lines.
pub record IsSoFar (book : Book) (edits : List Edit) (k : ℕ) (now : Book) (text : List ℕ) : Type 0 where
  pub supply : now.supply ≡ book.supply
  pub first : List ℕ
  pub is_first : IsStateLine 0 book first
  pub lines : List ℕ
  pub goes_on : (rest : List ℕ) → AreEditLines k now (drop k edits) rest → AreEditLines 0 book edits (lines ++ rest)
  pub last : book_after_all now (drop k edits) ≡ book_after_all book edits
  pub whole : text ≡ first ++ lines

-- before the first edit
pub none_yet : (book now : Book) (edits : List Edit) (text line : List ℕ) → now ≡ book → IsStateLine 0 now line → text ≡ line → IsSoFar book edits 0 now text
none_yet book now edits text line same is whole = record {
  supply = ap (λ (b : Book). b.supply) same;
  first = line;
  is_first = subst (λ (b : Book). IsStateLine 0 b line) same is;
  lines = [];
  goes_on = λ rest are. subst (λ (b : Book). AreEditLines 0 b edits rest) same are;
  last = ap (λ (b : Book). book_after_all b edits) same;
  whole = whole ∙ sym (append-nil line);
}

-- one edit more
pub one_more : (book : Book) (edits : List Edit) (k : ℕ) (now next : Book) (text more line : List ℕ) (e : Edit) → k < length edits → e ≡ get_or edits k e
    → IsSoFar book edits k now text
    → IsReplyLine (edit_reply now e) (k + 1) (book_after now e) line → next ≡ book_after now e → more ≡ text ++ line → IsSoFar book edits (k + 1) next more
one_more book edits k now next text more line e inside is so_far reply_line next_is more_is =
    let here : drop k edits ≡ e ∷ drop (suc k) edits = drop-cons edits k e inside ∙ ap (λ (x : Edit). x ∷ drop (suc k) edits) (sym is) in
    let up : suc k ≡ k + 1 = omega arith in
    subst (λ (n : ℕ). IsSoFar book edits n next more) up
    (subst (λ (b : Book). IsSoFar book edits (suc k) b more) (sym next_is)
    (record {
      supply = behind_supply now e ∙ so_far.supply;
      first = so_far.first;
      is_first = so_far.is_first;
      lines = so_far.lines ++ line;
      goes_on = λ rest are.
          subst (λ (l : List ℕ). AreEditLines 0 book edits l) (sym (append_assoc so_far.lines line rest))
          (so_far.goes_on (line ++ rest) (subst (λ (es : List Edit). AreEditLines k now es (line ++ rest)) (sym here)
          (line, rest, subst (λ (n : ℕ). IsReplyLine (edit_reply now e) n (book_after now e) line) (sym up) reply_line, are, refl)));
      last = ap (book_after_all now) (sym here) ∙ so_far.last;
      whole = more_is ∙ ap (λ (l : List ℕ). l ++ line) so_far.whole ∙ append_assoc so_far.first so_far.lines line;
    }))

-- after the last edit
pub all_done : (book now : Book) (edits : List Edit) (k : ℕ) (text more winners c : List ℕ) → length edits ≤ k → IsSoFar book edits k now text
    → IsWinning (market_of now) c → winners ≡ win_text now c → more ≡ text ++ winners
    → IsReviewText book edits more
all_done book now edits k text more winners c past so_far winning winners_are more_is =
    let none : drop k edits ≡ [] = drop_all k edits past in
    let here : now ≡ book_after_all book edits = ap (book_after_all now) (sym none) ∙ so_far.last in
    record {
      first = so_far.first;
      is_first = so_far.is_first;
      lines = so_far.lines;
      are_lines = subst (λ (l : List ℕ). AreEditLines 0 book edits l) (append-nil so_far.lines)
          (so_far.goes_on [] (subst (λ (es : List Edit). AreEditLines k now es []) (sym none) refl));
      winners = c;
      winning = subst (λ (b : Book). IsWinning (market_of b) c) here winning;
      whole = more_is ∙ ap (λ (l : List ℕ). l ++ winners) so_far.whole ∙ ap (λ (l : List ℕ). so_far.first ++ so_far.lines ++ l) winners_are
          ∙ ap (λ (b : Book). so_far.first ++ so_far.lines ++ win_text b c) here;
    }
