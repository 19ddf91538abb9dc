use Rattle.std.proofs.Common.{inl, inr, refl, arith, [], ◌∷◌, sym, ap, subst, ◌∙◌, Err}
use Rattle.std.proofs.lemmas.Result.{err_from_is_err_and}
use Rattle.limits.specs.declared.TheConstants.{BOOK_BYTES, WEIGHTS_BYTES}
use Rattle.cca_cli.specs.Answers.{BookAnswers, WeightsAnswers}
use Rattle.cca_cli.specs.Command.{weigh_check}
use Rattle.cca_cli.specs.Outcome.{stops}
use Rattle.cca_cli.specs.declared.status.FileKind.TheVariants.{Cert, Weights}
use Rattle.cca_cli.specs.declared.status.FileKind.TheVariants as file_kind
use Rattle.cca_commands.specs.Gives.{CertGives, VerdictGives, WeightsGive}
use Rattle.cca_commands.specs.Works.{Works}
use Rattle.cca_commands.specs.declared.work.Stop.{Stop}
use Rattle.cca_commands.proofs.Progress.{begins, reads-next, stops-next, works-from}
use Rattle.cca_commands.proofs.commands.weigh_check_work.Goals as goal

pub returns-in_err-book : goal.returns-in_err-book
returns-in_err-book g c =
    let command = weigh_check c.args.book.now c.args.weights.now c.args.cert.now in
    let old = g.F.Files.folder c.args.files.now in
    let new = g.F.Files.folder c.read_input.new.files in
    let stopped = stops-next command old old new [] file_kind.Book BOOK_BYTES BookAnswers (λ contents b. WeightsGive b (contents Weights) (λ w. CertGives b
    (contents Cert) (VerdictGives b w))) c.args.book.now refl (0, omega arith, refl) refl (begins command old)
    c.in_err-book.ensures.loads _ (λ bytes s x. x) (λ files. refl) (λ files. tt) c.in_err-book.field-0.0 c.in_err-book.ensures.stop in
    let is = err_from_is_err_and c.from_residual.result c.from_residual.ensures.1 in
    subst (Works command old new) (sym (is.1 ∙ ap (λ (s : Stop). Err s) is.2)) stopped

pub returns : goal.returns
returns g c =
    let name = c.args.weights.now in
    let cert = c.args.cert.now in
    let command = weigh_check c.args.book.now name cert in
    let old = g.F.Files.folder c.args.files.now in
    let first = g.F.Files.folder c.read_input.new.files in
    let new = g.F.Files.folder c.weigh_checked.new.files in
    let read = c.in_ok-book.ensures.value in
    let book = c.in_ok-book.book in
    let at = reads-next command old old first [] file_kind.Book BOOK_BYTES BookAnswers
    (λ contents b. WeightsGive b (contents Weights) (λ w. CertGives b (contents Cert) (VerdictGives b w))) c.args.book.now refl (0, omega arith, refl) refl
    (begins command old) c.in_ok-book.ensures.loads book read.bytes read.short read.says read.here in
    elim c.weigh_checked.ensures [
      | inl x ↦ subst (Works command old new) (sym x.1) (stops-next command old first new (file_kind.Book ∷ []) Weights WEIGHTS_BYTES (WeightsAnswers book)
          (λ contents w. CertGives book (contents Cert) (VerdictGives book w)) name refl (1, omega arith, refl) refl at x.3
          (λ bytes s. WeightsAnswers book bytes (stops s)) (λ bytes s h. h) (λ files. refl) (λ files. (refl, tt)) x.0 x.2)
      | inr x ↦ (let weights = x.0 in
          let mid = x.1 in
          let said = x.2 in
          works-from command old mid new (Weights ∷ file_kind.Book ∷ []) Cert cert (λ content. CertGives book content (VerdictGives book weights))
          (record { input = refl; within = (2, omega arith, refl); place = refl; unseen = (refl, (refl, tt)) })
          (reads-next command old first mid (file_kind.Book ∷ []) Weights WEIGHTS_BYTES (WeightsAnswers book)
          (λ contents w. CertGives book (contents Cert) (VerdictGives book w)) name refl (1, omega arith, refl) refl at x.3 weights said.bytes said.short
          said.says said.here) refl c.weigh_checked.result x.4)
    ]
