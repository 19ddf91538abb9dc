use Rattle.std.proofs.Common.{inl, inr, refl, arith, [], ◌∷◌, sym, ap, subst, ◌∙◌, Err}
use Rattle.std.proofs.lemmas.Result.{err_from_is_err_and}
use Rattle.limits.specs.declared.TheConstants.{BOOK_BYTES, WEIGHTS_BYTES}
use Rattle.cca_cli.specs.Answers.{BookAnswers, WeightsAnswers}
use Rattle.cca_cli.specs.Command.{weigh}
use Rattle.cca_cli.specs.Outcome.{stops}
use Rattle.cca_cli.specs.declared.status.FileKind.TheVariants.{Cert, Weights}
use Rattle.cca_cli.specs.declared.status.FileKind.TheVariants as file_kind
use Rattle.cca_commands.specs.Gives.{PriceGives, WeightsGive}
use Rattle.cca_commands.specs.Works.{Works}
use Rattle.cca_commands.specs.declared.work.Stop.{Stop}
use Rattle.cca_commands.proofs.Progress.{begins, reads-next, stops-next, works}
use Rattle.cca_commands.proofs.commands.weigh_work.Goals as goal

pub returns-in_err-book : goal.returns-in_err-book
returns-in_err-book g c = λ cert.
    let command = weigh c.args.book.now c.args.weights.now cert c.args.form in
    let old = g.F.Files.folder c.args.files.now in
    let new = g.F.Files.folder c.read_input.new.files in
    let stopped = stops-next command old old new [] file_kind.Book BOOK_BYTES BookAnswers (λ contents b. WeightsGive b (contents Weights)
    (λ w. PriceGives b w c.args.form)) c.args.book.now refl (0, omega arith, refl) refl (begins command old)
    c.in_err-book.ensures.loads _ (λ bytes s x. x) (λ files. refl) (λ files. tt) c.in_err-book.field-0.0 c.in_err-book.ensures.stop in
    let is = err_from_is_err_and c.from_residual.result c.from_residual.ensures.1 in
    subst (Works command old new) (sym (is.1 ∙ ap (λ (s : Stop). Err s) is.2)) stopped

pub returns : goal.returns
returns g c = λ cert.
    let name = c.args.weights.now in
    let command = weigh c.args.book.now name cert c.args.form in
    let old = g.F.Files.folder c.args.files.now in
    let mid = g.F.Files.folder c.read_input.new.files in
    let new = g.F.Files.folder c.weighed.new.files in
    let read = c.in_ok-book.ensures.value in
    let book = c.in_ok-book.book in
    let at = reads-next command old old mid [] file_kind.Book BOOK_BYTES BookAnswers (λ contents b. WeightsGive b (contents Weights) (λ w. PriceGives b w c.args.form))
    c.args.book.now refl (0, omega arith, refl) refl (begins command old)
    c.in_ok-book.ensures.loads book read.bytes read.short read.says read.here in
    let loads = c.weighed.ensures.loads in
    elim c.weighed.ensures.out [
      | inl x ↦ subst (Works command old new) (sym x.1) (stops-next command old mid new (file_kind.Book ∷ []) Weights WEIGHTS_BYTES (WeightsAnswers book)
          (λ contents w. PriceGives book w c.args.form) name refl (1, omega arith, refl) refl at loads (λ bytes s. WeightsAnswers book bytes (stops s))
          (λ bytes s h. h) (λ files. refl) (λ files. (refl, tt)) x.0 x.2)
      | inr x ↦ (let said = x.1 in
          works command old new _ _ (reads-next command old mid new (file_kind.Book ∷ []) Weights WEIGHTS_BYTES (WeightsAnswers book)
          (λ contents w. PriceGives book w c.args.form) name refl (1, omega arith, refl) refl at loads x.0 said.bytes said.short said.says said.here)
          (Cert ∷ []) (refl, tt) c.weighed.result (λ files. x.2))
    ]
