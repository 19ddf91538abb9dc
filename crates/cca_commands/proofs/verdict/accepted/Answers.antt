use Rattle.std.proofs.Common.{inl, ◌≡◌, ◌∙◌, refl, sym, ap, subst, [], Err, rules}
use Rattle.std.proofs.lemmas.Result.{err_from_is_err_and}
use Rattle.cca_commands.specs.Gives.{VerdictGives}
use Rattle.cca_commands.specs.Works.{IsWork}
use Rattle.cca_commands.specs.declared.work.Stop.{Stop}
use Rattle.cca_commands.proofs.Priced.{accepts}
use Rattle.cca_commands.proofs.verdict.accepted.Goals as goal

pub returns : goal.returns
returns c =
    let none : c.new.result.items ≡ [] = search rules in
    λ weights cert holds sound are. accepts c.args.book.now weights cert c.in_ok-printed.printed c.new.result.items none holds sound
    (c.in_ok-printed.ensures cert are)

pub returns-in_err-printed : goal.returns-in_err-printed
returns-in_err-printed c = λ weights cert holds sound are.
    let is = err_from_is_err_and c.from_residual.result c.from_residual.ensures.1 in
    subst (IsWork (VerdictGives c.args.book.now weights cert) []) (sym (is.1 ∙ ap (λ (s : Stop). Err s) is.2)) (inl refl)
