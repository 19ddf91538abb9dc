use Rattle.std.proofs.Common.{◌≡◌, subst, sym, rules}
use Rattle.cert_check.specs.declared.verdict.Verdict.TheVariants as verdict
use Rattle.cca_commands.specs.Checked.{StopsCheck}
use Rattle.cca_cli.specs.Reading.{IsStop}
use Rattle.cca_cli.specs.declared.status.Status.{Status}
use Rattle.cca_commands.proofs.Feeding.{judged-no, judged-yes, text-stopped}
use Rattle.cca_commands.proofs.checked.test_cert.Goals as goal

pub returns-in-Ok-Yes-clause-yes : goal.returns-in-Ok-Yes-clause-yes
returns-in-Ok-Yes-clause-yes c = λ text stands.
    let k = c.args.checker.now in
    let is : c.in-Ok-Yes.field-0 ≡ verdict.Yes = search rules in
    judged-yes k.book.now k.weights.now text c.in-Ok-Yes.field-0 is (c.in-Ok-Yes.ensures.verdict text stands)

pub returns-in-Ok-No-clause-stop : goal.returns-in-Ok-No-clause-stop
returns-in-Ok-No-clause-stop c = λ text stands.
    let k = c.args.checker.now in
    let is : c.in-Ok-No.field-0 ≡ verdict.No c.in-Ok-No.test c.in-Ok-No.place = search rules in
    (tt, judged-no k.book.now k.weights.now text c.in-Ok-No.field-0 c.in-Ok-No.test c.in-Ok-No.place is (c.in-Ok-No.ensures.verdict text stands))

pub returns-in-Err-clause-stop : goal.returns-in-Err-clause-stop
returns-in-Err-clause-stop c = λ text stands.
    let k = c.args.checker.now in
    subst (λ (s : Status). IsStop s × StopsCheck k.book.now k.weights.now text s) (sym c.status_of_text.ensures)
    (text-stopped k.book.now k.weights.now text c.in-Err.stop (c.in-Err.ensures.stops text stands))
