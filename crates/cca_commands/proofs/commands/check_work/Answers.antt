use Rattle.std.proofs.Common.{◌∙◌, refl, arith, [], ◌∷◌, sym, ap, subst, Err}
use Rattle.std.proofs.lemmas.Result.{err_from_is_err_and}
use Rattle.limits.specs.declared.TheConstants.{BOOK_BYTES}
use Rattle.cca_cli.specs.Answers.{BookAnswers}
use Rattle.cca_cli.specs.Command.{check}
use Rattle.cca_cli.specs.declared.status.FileKind.TheVariants.{Cert}
use Rattle.cca_cli.specs.declared.status.FileKind.TheVariants as file_kind
use Rattle.cca_commands.specs.Gives.{CertGives, VerdictGives, ones}
use Rattle.cca_commands.specs.Works.{Works}
use Rattle.cca_commands.specs.declared.work.Stop.{Stop}
use Rattle.cca_commands.proofs.Progress.{begins, reads-next, stops-next, works-from}
use Rattle.cca_commands.proofs.commands.check_work.Goals as goal

pub returns-in_err-book : goal.returns-in_err-book
returns-in_err-book g c =
    let command = check c.args.book.now c.args.cert.now in
    let old = g.F.Files.folder c.args.files.now in
    let new = g.F.Files.folder c.read_input.new.files in
    let stopped = stops-next command old old new [] file_kind.Book BOOK_BYTES BookAnswers (λ contents b. CertGives b (contents Cert) (VerdictGives b
    (ones b))) c.args.book.now refl (0, omega arith, refl) refl (begins command old)
    c.in_err-book.ensures.loads _ (λ bytes s x. x) (λ files. refl) (λ files. tt) c.in_err-book.field-0.0 c.in_err-book.ensures.stop in
    let is = err_from_is_err_and c.from_residual.result c.from_residual.ensures.1 in
    subst (Works command old new) (sym (is.1 ∙ ap (λ (s : Stop). Err s) is.2)) stopped

pub returns : goal.returns
returns g c =
    let cert = c.args.cert.now in
    let command = check c.args.book.now cert in
    let old = g.F.Files.folder c.args.files.now in
    let mid = g.F.Files.folder c.read_input.new.files in
    let new = g.F.Files.folder c.checked_alike.new.files in
    let read = c.in_ok-book.ensures.value in
    let book = c.in_ok-book.book in
    let at = reads-next command old old mid [] file_kind.Book BOOK_BYTES BookAnswers (λ contents b. CertGives b (contents Cert) (VerdictGives b (ones b)))
    c.args.book.now refl (0, omega arith, refl) refl (begins command old) c.in_ok-book.ensures.loads book read.bytes read.short read.says read.here in
    works-from command old mid new (file_kind.Book ∷ []) Cert cert (λ content. CertGives book content (VerdictGives book (ones book)))
    (record { input = refl; within = (1, omega arith, refl); place = refl; unseen = (refl, tt) }) at refl c.checked_alike.result c.checked_alike.ensures
