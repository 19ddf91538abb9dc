use Rattle.std.proofs.Common.{inl, inr, refl, sym, ap, subst, ◌∙◌, arith, [], ◌∷◌, Err}
use Rattle.std.proofs.lemmas.Result.{err_from_is_err_and}
use Rattle.limits.specs.declared.TheConstants.{AWARD_BYTES, LOG_BYTES}
use Rattle.cca_cli.specs.Answers.{AwardAnswers, LogAnswers}
use Rattle.cca_cli.specs.Command.{auction}
use Rattle.cca_cli.specs.Outcome.{stops}
use Rattle.cca_cli.specs.declared.status.FileKind.TheVariants.{Award, Log}
use Rattle.cca_cli.specs.declared.status.FileKind.TheVariants as file_kind
use Rattle.cca_commands.specs.Gives.{AuctionGives, LogGives}
use Rattle.cca_commands.specs.Works.{Works}
use Rattle.cca_commands.specs.declared.work.Stop.{Stop}
use Rattle.cca_commands.proofs.Progress.{begins, reads-next, stops-next, works}
use Rattle.cca_commands.proofs.commands.auction_work.Goals as goal

pub returns-in_err-award : goal.returns-in_err-award
returns-in_err-award g c = λ book.
    let command = auction c.args.award.now c.args.log.now book in
    let old = g.F.Files.folder c.args.files.now in
    let new = g.F.Files.folder c.read_input.new.files in
    let stopped = stops-next command old old new [] Award AWARD_BYTES AwardAnswers (λ contents terms. LogGives terms (contents Log) (AuctionGives terms))
    c.args.award.now refl (0, omega arith, refl) refl (begins command old)
    c.in_err-award.ensures.loads _ (λ bytes s x. x) (λ files. refl) (λ files. tt) c.in_err-award.field-0.0 c.in_err-award.ensures.stop in
    let is = err_from_is_err_and c.from_residual.result c.from_residual.ensures.1 in
    subst (Works command old new) (sym (is.1 ∙ ap (λ (s : Stop). Err s) is.2)) stopped

pub returns : goal.returns
returns g c = λ book.
    let log = c.args.log.now in
    let command = auction c.args.award.now log book in
    let old = g.F.Files.folder c.args.files.now in
    let mid = g.F.Files.folder c.read_input.new.files in
    let new = g.F.Files.folder c.replayed_after.new.files in
    let read = c.in_ok-award.ensures.value in
    let terms = c.in_ok-award.award in
    let at = reads-next command old old mid [] Award AWARD_BYTES AwardAnswers (λ contents terms. LogGives terms (contents Log) (AuctionGives terms))
    c.args.award.now refl (0, omega arith, refl) refl (begins command old)
    c.in_ok-award.ensures.loads terms read.bytes read.short read.says read.here in
    let loads = c.replayed_after.ensures.loads in
    elim c.replayed_after.ensures.out [
      | inl x ↦ subst (Works command old new) (sym x.1) (stops-next command old mid new (Award ∷ []) Log LOG_BYTES (LogAnswers terms)
          (λ contents. AuctionGives terms) log refl (1, omega arith, refl) refl at loads (λ bytes s. LogAnswers terms bytes (stops s)) (λ bytes s h. h)
          (λ files. refl) (λ files. (refl, tt)) x.0 x.2)
      | inr x ↦ (let stated = x.1 in
          works command old new _ _ (reads-next command old mid new (Award ∷ []) Log LOG_BYTES (LogAnswers terms) (λ contents. AuctionGives terms) log refl
          (1, omega arith, refl) refl at loads x.0 stated.bytes stated.short stated.says stated.here) (file_kind.Book ∷ []) (refl, tt) c.replayed_after.result
          (λ files. x.2))
    ]
