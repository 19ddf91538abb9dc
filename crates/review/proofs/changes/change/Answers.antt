use Rattle.std.proofs.Common.{◌≡◌, length, subst}
use Rattle.review.specs.declared.edit.Edit.{Edit}
use Rattle.review.specs.declared.edit.EditReply.TheVariants as reply
use Rattle.review.specs.Edits.{edit_lots, edit_reply}
use Rattle.review.proofs.ReplyLaws.{add-can, raise-can}
use Rattle.review.proofs.changes.change.Goals as goal

pub add-requires-clause-bid : goal.add-requires-clause-bid
add-requires-clause-bid c =
    let book = c.args.book.now in
    add-can book c.in-Add.bidder c.in-Add.«package» c.in-Add.amount (subst (λ (e : Edit). length (edit_lots e) ≡ length book.supply) c.in-Add.is
    c.requires.categories)
    (subst (λ (e : Edit). edit_reply book e ≡ reply.Ok) c.in-Add.is c.requires.ok)

pub raise-requires-clause-bid : goal.raise-requires-clause-bid
raise-requires-clause-bid c =
    let book = c.args.book.now in
    raise-can book c.in-Raise.bidder c.in-Raise.«package» c.in-Raise.amount c.kept.ensures
    (subst (λ (e : Edit). length (edit_lots e) ≡ length book.supply) c.in-Raise.is c.requires.categories)
    (subst (λ (e : Edit). edit_reply book e ≡ reply.Ok) c.in-Raise.is c.requires.ok)
