-- What an edit makes of the amounts of a book.
use Rattle.std.specs.Prelude.{◌≡◌, ◌≢◌, ℕ, ◌<◌, true, false, Some, None, List, [], ◌∷◌, refl}
use Rattle.std.proofs.Common.{inl, inr, sym, ◌∙◌, ap, subst}
use Rattle.std.proofs.lemmas.Bool.{cases_Bool}
use Rattle.auction_model.specs.Book.{Book, BookBid, bidder_of, bids_of}
use Rattle.auction_model.specs.Entries.{with_entry, without_entry}
use Rattle.auction_model.specs.PackageTests.{is_before, is_same}
use Rattle.auction_model.proofs.PackageTestLaws.{is_same-refl, is_same-true, not_same-sym}
use Rattle.review.specs.declared.edit.Edit.{Edit}
use Rattle.review.specs.declared.edit.Edit.TheVariants.{Add, Raise, Remove}
use Rattle.review.specs.declared.edit.EditReply.TheVariants as reply
use Rattle.review.specs.Edits.{amount_for, edit_amount, edit_bidder, edit_lots, edit_reply, edited}
use Rattle.review.proofs.EditedLines.{bidder-other}
use Rattle.review.proofs.KeepLaws.{own-bids}
use Rattle.review.proofs.ReplyLaws.{edit-fit}

-- packages that differ
apart-same : (p q : List ℕ) → p ≢ q → is_same p q ≡ false
apart-same p q other = elim (cases_Bool (is_same p q)) [ inl same ↦ absurd (other (is_same-true p q same)) | inr apart ↦ apart ]

module _ (lots : List ℕ) (amount : ℕ) where
  put-own : (bids : List BookBid) → amount_for lots (with_entry lots amount bids) ≡ Some amount
  put-own [] = let same : is_same lots lots ≡ true = is_same-refl lots in rw same refl
  put-own (b ∷ bids) =
      let self : is_same lots lots ≡ true = is_same-refl lots in
      elim (cases_Bool (is_same lots b.lots)) [
        | inl same ↦ rw (same, self) refl
        | inr apart ↦ elim (cases_Bool (is_before lots b.lots)) [
          | inl early ↦ rw (apart, early, self) refl
          | inr late ↦ let other : is_same b.lots lots ≡ false = not_same-sym lots b.lots apart in rw (apart, late, other) (put-own bids)
        ]
      ]

  put-other : (p : List ℕ) (bids : List BookBid) → p ≢ lots → amount_for p (with_entry lots amount bids) ≡ amount_for p bids
  put-other p [] other = let apart : is_same lots p ≡ false = apart-same lots p (λ e. other (sym e)) in rw apart refl
  put-other p (b ∷ bids) other =
      let far : is_same lots p ≡ false = apart-same lots p (λ e. other (sym e)) in
      elim (cases_Bool (is_same lots b.lots)) [
        | inl same ↦
            let own : is_same b.lots p ≡ false = subst (λ (l : List ℕ). is_same l p ≡ false) (is_same-true lots b.lots same) far in
            rw (same, far, own) refl
        | inr apart ↦ elim (cases_Bool (is_before lots b.lots)) [
          | inl early ↦ rw (apart, early, far) refl
          | inr late ↦ elim (cases_Bool (is_same b.lots p)) [
            | inl here ↦ rw (apart, late, here) refl
            | inr else ↦ rw (apart, late, else) (put-other p bids other)
          ]
        ]
      ]

gone-own : (lots : List ℕ) (bids : List BookBid) → amount_for lots (without_entry lots bids) ≡ None
gone-own lots [] = refl
gone-own lots (b ∷ bids) =
    elim (cases_Bool (is_same lots b.lots)) [
      | inl same ↦ rw same (gone-own lots bids)
      | inr apart ↦ let other : is_same b.lots lots ≡ false = not_same-sym lots b.lots apart in rw (apart, other) (gone-own lots bids)
    ]

gone-other : (lots p : List ℕ) (bids : List BookBid) → p ≢ lots → amount_for p (without_entry lots bids) ≡ amount_for p bids
gone-other lots p [] other = refl
gone-other lots p (b ∷ bids) other =
    elim (cases_Bool (is_same lots b.lots)) [
      | inl same ↦
          let far : is_same b.lots p ≡ false = apart-same b.lots p (λ e. other (sym e ∙ sym (is_same-true lots b.lots same))) in
          rw (same, far) (gone-other lots p bids other)
      | inr apart ↦ elim (cases_Bool (is_same b.lots p)) [
        | inl here ↦ rw (apart, here) refl
        | inr else ↦ rw (apart, else) (gone-other lots p bids other)
      ]
    ]

-- the edited package has the new amount, or none
pub amount-own : (book : Book) (edit : Edit) → edit_reply book edit ≡ reply.Ok → amount_for (edit_lots edit)
    (bids_of (edited book edit) (edit_bidder edit)) ≡ edit_amount edit
amount-own book (Add j lots amount) ok = let fit = edit-fit book (Add j lots amount) ok in ap (amount_for lots) (own-bids book j _ fit.some fit.known)
    ∙ put-own lots amount (bids_of book j)
amount-own book (Raise j lots amount) ok = let fit = edit-fit book (Raise j lots amount) ok in ap (amount_for lots) (own-bids book j _ fit.some fit.known)
    ∙ put-own lots amount (bids_of book j)
amount-own book (Remove j lots) ok = let fit = edit-fit book (Remove j lots) ok in ap (amount_for lots) (own-bids book j _ fit.some fit.known)
    ∙ gone-own lots (bids_of book j)

-- every other package of its bidder keeps its own
pub amount-kept : (book : Book) (edit : Edit) (p : List ℕ) → edit_reply book edit ≡ reply.Ok → p ≢ edit_lots edit
    → amount_for p (bids_of (edited book edit) (edit_bidder edit)) ≡ amount_for p (bids_of book (edit_bidder edit))
amount-kept book (Add j lots amount) p ok other = let fit = edit-fit book (Add j lots amount) ok in ap (amount_for p) (own-bids book j _ fit.some fit.known)
    ∙ put-other lots amount p (bids_of book j) other
amount-kept book (Raise j lots amount) p ok other = let fit = edit-fit book (Raise j lots amount) ok in
    ap (amount_for p) (own-bids book j _ fit.some fit.known) ∙ put-other lots amount p (bids_of book j) other
amount-kept book (Remove j lots) p ok other = let fit = edit-fit book (Remove j lots) ok in ap (amount_for p) (own-bids book j _ fit.some fit.known)
    ∙ gone-other lots p (bids_of book j) other

-- and every other bidder all
pub bidder-kept : (book : Book) (edit : Edit) (q : ℕ) → edit_reply book edit ≡ reply.Ok → 0 < q → q ≢ edit_bidder edit
    → bidder_of (edited book edit) q ≡ bidder_of book q
bidder-kept book (Add j lots amount) q ok some other = let fit = edit-fit book (Add j lots amount) ok in bidder-other book j _ fit.some q some other
bidder-kept book (Raise j lots amount) q ok some other = let fit = edit-fit book (Raise j lots amount) ok in bidder-other book j _ fit.some q some other
bidder-kept book (Remove j lots) q ok some other = let fit = edit-fit book (Remove j lots) ok in bidder-other book j _ fit.some q some other
