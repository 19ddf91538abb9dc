use Rattle.std.proofs.Common.{◌∙◌, ℕ, List, length, inr, sym, ap, subst, take}
use Rattle.std.specs.Prelude.{ℤ, IsTrue, ◌↔◌}
use Rattle.auction_model.specs.Book.{Book}
use Rattle.cert_grammar.specs.CertText.{AllInRange, AreMembers}
use Rattle.cert_soundness.specs.Tests.{IsTightRow, bidders_of}
use Rattle.cert_stream.specs.LinesLeft.{row_at}
use Rattle.stream_check.proofs.RowCome.{row_at-kept}
use Rattle.stream_check.proofs.RowTests.{row-some, row-inside, row-pay, row-choice}
use Rattle.stream_check.proofs.judging.rows.keeps_row.Goals as goal

pub choice_in-choice-requires-clause-choice : goal.choice_in-choice-requires-clause-choice
choice_in-choice-requires-clause-choice c =
    let cert = c.requires.some.0 in
    let is = c.requires.some.1 in (
      (row_at cert c.args.left).choice,
      row-choice c.args.at.now cert is c.args.left c.requires.due,
      (row_at-kept (bidders_of c.args.at.now.book.now) cert c.args.left is.kept.rows (row-some c.args.at.now cert is c.args.left c.requires.due)
          (row-inside c.args.at.now cert is c.args.left c.requires.due)).choice,
    )

pub members_in-members-requires-clause-due : goal.members_in-members-requires-clause-due
members_in-members-requires-clause-due c = inr c.requires.due

pub row_holds-requires-clause-pay : goal.row_holds-requires-clause-pay
row_holds-requires-clause-pay c =
    let is = c.requires.some.1 in
    let pay_is = c.numbers_in-pay.ensures ∙ row-pay c.args.at.now c.requires.some.0 is c.args.left c.requires.due in (
      ap (λ (l : List ℤ). length l) pay_is ∙ is.kept.pay.0 ∙ ap bidders_of (sym c.requires.claim.book),
      subst AllInRange (sym pay_is) is.kept.pay.1,
    )

pub row_holds-requires-clause-members : goal.row_holds-requires-clause-members
row_holds-requires-clause-members c =
    let cert = c.requires.some.0 in
    let is = c.requires.some.1 in
    let kept = row_at-kept (bidders_of c.args.at.now.book.now) cert c.args.left is.kept.rows (row-some c.args.at.now cert is c.args.left c.requires.due)
    (row-inside c.args.at.now cert is c.args.left c.requires.due) in
    subst (λ (b : Book). AreMembers (bidders_of b) 0 c.as_slice.result.now) (sym c.requires.claim.book)
    (subst (AreMembers (bidders_of c.args.at.now.book.now) 0) (sym (c.as_slice.ensures ∙ c.members_in-members.ensures cert is)) kept.members)

pub row_holds-requires-clause-choice : goal.row_holds-requires-clause-choice
row_holds-requires-clause-choice c =
    let cert = c.requires.some.0 in
    let is = c.requires.some.1 in
    let kept = row_at-kept (bidders_of c.args.at.now.book.now) cert c.args.left is.kept.rows (row-some c.args.at.now cert is c.args.left c.requires.due)
    (row-inside c.args.at.now cert is c.args.left c.requires.due) in
    let choice_is = c.as_slice-2.ensures ∙ c.choice_in-choice.ensures.choice
    (row_at cert c.args.left).choice (row-choice c.args.at.now cert is c.args.left c.requires.due) in
    ap (λ (l : List ℕ). length l) choice_is ∙ kept.choice.0 ∙ ap bidders_of (sym c.requires.claim.book)

pub returns : goal.returns
returns c = λ cert is.
    let pay_is = c.numbers_in-pay.ensures ∙ row-pay c.args.at.now cert is c.args.left c.requires.due in
    let choice_is = c.as_slice-2.ensures ∙ c.choice_in-choice.ensures.choice
    (row_at cert c.args.left).choice (row-choice c.args.at.now cert is c.args.left c.requires.due) in
    subst (λ (b : Book). IsTrue c.row_holds.result ↔ IsTightRow b cert (row_at cert c.args.left)) c.requires.claim.book
    (c.row_holds.ensures cert (row_at cert c.args.left) (c.requires.claim.each cert is) (sym pay_is) (sym (c.as_slice.ensures ∙ c.members_in-members.ensures cert is))
    (sym choice_is))
