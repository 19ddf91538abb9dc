use Rattle.std.proofs.Common.{refl, arith, [], ◌∷◌, sym, ap, subst, ◌∙◌, Err}
use Rattle.std.proofs.lemmas.Result.{err_from_is_err_and}
use Rattle.limits.specs.declared.TheConstants.{BOOK_BYTES}
use Rattle.cca_cli.specs.Answers.{BookAnswers}
use Rattle.cca_cli.specs.Command.{price}
use Rattle.cca_cli.specs.declared.status.FileKind.TheVariants.{Cert}
use Rattle.cca_cli.specs.declared.status.FileKind.TheVariants as file_kind
use Rattle.cca_commands.specs.Gives.{PriceGives, ones}
use Rattle.cca_commands.specs.Works.{Works}
use Rattle.cca_commands.specs.declared.work.Stop.{Stop}
use Rattle.cca_commands.proofs.Progress.{begins, reads-next, stops-next, works}
use Rattle.cca_commands.proofs.commands.price_work.Goals as goal

pub returns-in_err-book : goal.returns-in_err-book
returns-in_err-book g c = λ cert.
    let name = c.args.book.now in
    let old = g.F.Files.folder c.args.files.now in
    let new = g.F.Files.folder c.read_input.new.files in
    let stopped = stops-next (price name cert c.args.form) old old new [] file_kind.Book BOOK_BYTES BookAnswers
    (λ contents b. PriceGives b (ones b) c.args.form) name refl (0, omega arith, refl) refl (begins (price name cert c.args.form) old)
    c.in_err-book.ensures.loads
    _ (λ bytes s x. x) (λ files. refl) (λ files. tt) c.in_err-book.field-0.0 c.in_err-book.ensures.stop in
    let is = err_from_is_err_and c.from_residual.result c.from_residual.ensures.1 in
    subst (Works (price name cert c.args.form) old new) (sym (is.1 ∙ ap (λ (s : Stop). Err s) is.2)) stopped

pub returns : goal.returns
returns g c = λ cert.
    let name = c.args.book.now in
    let old = g.F.Files.folder c.args.files.now in
    let new = g.F.Files.folder c.read_input.new.files in
    let read = c.in_ok-book.ensures.value in
    let at = reads-next (price name cert c.args.form) old old new [] file_kind.Book BOOK_BYTES BookAnswers (λ contents b. PriceGives b (ones b) c.args.form) name refl
    (0, omega arith, refl) refl (begins (price name cert c.args.form) old) c.in_ok-book.ensures.loads
    c.in_ok-book.book read.bytes read.short read.says read.here in
    works (price name cert c.args.form) old new _ _ at (Cert ∷ []) (refl, tt) c.price_alike.result (λ files. c.price_alike.ensures)
