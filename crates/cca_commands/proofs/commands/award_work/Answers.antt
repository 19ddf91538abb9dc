use Rattle.std.proofs.Common.{refl, arith, List, ℕ, [], ◌∷◌, sym, ap, subst, ◌∙◌, Err}
use Rattle.std.proofs.lemmas.Result.{err_from_is_err_and}
use Rattle.cca_cli.specs.Command.{award}
use Rattle.cca_cli.specs.declared.price_form.PriceForm.{PriceForm}
use Rattle.cca_cli.specs.declared.status.FileKind.TheVariants.{Award, Log, Cert}
use Rattle.cca_commands.specs.Gives.{PriceGives, ones}
use Rattle.cca_commands.specs.Works.{Works}
use Rattle.cca_commands.specs.declared.work.Stop.{Stop}
use Rattle.cca_commands.proofs.Progress.{IsNext, begins, logged-at, logged-stops, works}
use Rattle.cca_commands.proofs.commands.award_work.Goals as goal

first : (terms log cert : List ℕ) (form : PriceForm) → IsNext (award terms log cert form) [] Award terms
first terms log cert form = record { input = refl; within = (0, omega arith, refl); place = refl; unseen = tt }

second : (terms log cert : List ℕ) (form : PriceForm) → IsNext (award terms log cert form) (Award ∷ []) Log log
second terms log cert form = record { input = refl; within = (1, omega arith, refl); place = refl; unseen = (refl, tt) }

pub returns-in_err-book : goal.returns-in_err-book
returns-in_err-book g c = λ cert.
    let terms = c.args.terms.now in
    let log = c.args.log.now in
    let form = c.args.form in
    let old = g.F.Files.folder c.args.files.now in
    let new = g.F.Files.folder c.logged.new.files in
    let command = award terms log cert form in
    let stopped = logged-stops command (λ contents b. PriceGives b (ones b) form) terms log old (first terms log cert form) (second terms log cert form)
    (begins command old)
    new c.in_err-book.field-0.0 c.in_err-book.ensures in
    let is = err_from_is_err_and c.from_residual.result c.from_residual.ensures.1 in
    subst (Works command old new) (sym (is.1 ∙ ap (λ (s : Stop). Err s) is.2)) stopped

pub returns : goal.returns
returns g c = λ cert.
    let terms = c.args.terms.now in
    let log = c.args.log.now in
    let form = c.args.form in
    let old = g.F.Files.folder c.args.files.now in
    let new = g.F.Files.folder c.logged.new.files in
    let command = award terms log cert form in
    let at = logged-at command (λ contents b. PriceGives b (ones b) form) terms log old (first terms log cert form) (second terms log cert form)
    (begins command old)
    new c.in_ok-book.book c.in_ok-book.ensures in
    works command old new _ _ at (Cert ∷ []) (refl, tt) c.price_alike.result (λ files. c.price_alike.ensures)
