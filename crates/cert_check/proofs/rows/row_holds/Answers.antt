use Rattle.cert_check.proofs.FieldLaws.{tight-of}
use Rattle.cert_check.proofs.rows.row_holds.Goals as goal

pub returns : goal.returns
returns c = λ cert row is pay_is members_is choice_is.
    let a = c.args.claim.now in
    tight-of a.book.now a cert row c.args.pay.now c.args.members.now c.args.choice.now c.pays_tightly.result is pay_is members_is choice_is
    c.pays_tightly.ensures
