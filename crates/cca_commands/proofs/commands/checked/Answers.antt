use Rattle.std.proofs.Common.{sym, ap, subst, ◌∙◌, Err}
use Rattle.std.proofs.lemmas.Result.{err_from_is_err_and}
use Rattle.cca_commands.specs.Works.{CertWorks}
use Rattle.cca_commands.specs.declared.work.Stop.{Stop}
use Rattle.cca_commands.proofs.CertWork.{cert-stops, cert-works}
use Rattle.cca_commands.proofs.commands.checked.Goals as goal

pub returns-in_err-facts : goal.returns-in_err-facts
returns-in_err-facts g c =
    let old = g.F.Files.folder c.args.files.now in
    let new = g.F.Files.folder c.check_input.new.files in
    let book = c.args.book.now in
    let weights = c.args.weights.now in
    let name = c.args.cert.now in
    let stopped = cert-stops book weights name old new c.in_err-facts.ensures.loads c.in_err-facts.field-0.0 c.in_err-facts.ensures.stop in
    let is = err_from_is_err_and c.from_residual.result c.from_residual.ensures.1 in
    subst (CertWorks book weights name old new) (sym (is.1 ∙ ap (λ (s : Stop). Err s) is.2)) stopped

pub returns : goal.returns
returns g c =
    let old = g.F.Files.folder c.args.files.now in
    let new = g.F.Files.folder c.check_input.new.files in
    let shown = c.in_ok-facts.ensures.value in
    let all = shown.says in
    cert-works c.args.book.now c.args.weights.now c.args.cert.now old new c.in_ok-facts.ensures.loads all.0 shown.bytes shown.short all.1 shown.here
    c.accepted.result (c.accepted.ensures c.args.weights.now all.0 all.2 all.3 all.4)
