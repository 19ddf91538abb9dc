use Rattle.std.proofs.Common.{refl, sym, ap, subst, ◌∙◌, arith, Bool, IsTrue, List, ℕ, [], ◌∷◌, Err}
use Rattle.std.proofs.lemmas.Result.{err_from_is_err_and}
use Rattle.cca_cli.specs.Command.{audit}
use Rattle.cca_cli.specs.declared.status.FileKind.TheVariants.{Award, Log, Cert}
use Rattle.cca_commands.specs.Gives.{CertGives, VerdictGives, ones}
use Rattle.cca_commands.specs.Works.{Works}
use Rattle.cca_commands.specs.declared.work.Stop.{Stop}
use Rattle.cca_commands.proofs.Progress.{IsNext, begins, logged-at, logged-kept, logged-stops, works-from}
use Rattle.cca_commands.proofs.commands.audit_work.Goals as goal

first : (terms log cert : List ℕ) → IsNext (audit terms log cert) [] Award terms
first terms log cert = record { input = refl; within = (0, omega arith, refl); place = refl; unseen = tt }

second : (terms log cert : List ℕ) → IsNext (audit terms log cert) (Award ∷ []) Log log
second terms log cert = record { input = refl; within = (1, omega arith, refl); place = refl; unseen = (refl, tt) }

third : (terms log cert : List ℕ) → IsNext (audit terms log cert) (Log ∷ Award ∷ []) Cert cert
third terms log cert = record { input = refl; within = (2, omega arith, refl); place = refl; unseen = (refl, (refl, tt)) }

pub returns-in_err-book : goal.returns-in_err-book
returns-in_err-book g c =
    let terms = c.args.terms.now in
    let log = c.args.log.now in
    let cert = c.args.cert.now in
    let old = g.F.Files.folder c.args.files.now in
    let new = g.F.Files.folder c.logged.new.files in
    let command = audit terms log cert in
    let stopped = logged-stops command (λ contents b. CertGives b (contents Cert) (VerdictGives b (ones b))) terms log old (first terms log cert)
    (second terms log cert)
    (begins command old) new c.in_err-book.field-0.0 c.in_err-book.ensures in
    let is = err_from_is_err_and c.from_residual.result c.from_residual.ensures.1 in
    subst (Works command old new) (sym (is.1 ∙ ap (λ (s : Stop). Err s) is.2)) stopped

pub checked_alike-requires : goal.checked_alike-requires
checked_alike-requires g c =
    let old = g.F.Files.folder c.args.files.now in
    let new = g.F.Files.folder c.logged.new.files in
    let kept = logged-kept c.args.terms.now c.args.log.now old new c.in_ok-book.book c.in_ok-book.ensures in
    subst (λ (k : List ℕ → Bool). IsTrue (k c.args.cert.now)) (sym kept.knows) c.requires.cert

pub returns : goal.returns
returns g c =
    let terms = c.args.terms.now in
    let log = c.args.log.now in
    let cert = c.args.cert.now in
    let book = c.in_ok-book.book in
    let old = g.F.Files.folder c.args.files.now in
    let mid = g.F.Files.folder c.logged.new.files in
    let new = g.F.Files.folder c.checked_alike.new.files in
    let command = audit terms log cert in
    let at = logged-at command (λ contents b. CertGives b (contents Cert) (VerdictGives b (ones b))) terms log old (first terms log cert)
    (second terms log cert)
    (begins command old) mid book c.in_ok-book.ensures in
    works-from command old mid new (Log ∷ Award ∷ []) Cert cert (λ content. CertGives book content (VerdictGives book (ones book)))
    (third terms log cert) at refl c.checked_alike.result c.checked_alike.ensures
