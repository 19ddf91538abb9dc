use Rattle.std.proofs.Common.{inl, inr, sym, ap, subst, ◌∙◌, refl, Err}
use Rattle.std.proofs.lemmas.Result.{err_from_is_err_and}
use Rattle.cca_commands.specs.Works.{HasLogged}
use Rattle.cca_commands.specs.declared.work.Stop.{Stop}
use Rattle.cca_commands.proofs.Progress.{has-logged}
use Rattle.cca_commands.proofs.commands.logged.Goals as goal

pub returns-in_err-award : goal.returns-in_err-award
returns-in_err-award g c =
    let old = g.F.Files.folder c.args.files.now in
    let new = g.F.Files.folder c.read_input.new.files in
    let is = err_from_is_err_and c.from_residual.result c.from_residual.ensures.1 in
    subst (HasLogged c.args.terms.now c.args.log.now old new) (sym (is.1 ∙ ap (λ (s : Stop). Err s) is.2))
    (inl (record { status = c.in_err-award.field-0.0; is = refl; why = c.in_err-award.ensures.stop; loads = c.in_err-award.ensures.loads }))

pub returns : goal.returns
returns g c =
    let old = g.F.Files.folder c.args.files.now in
    let mid = g.F.Files.folder c.read_input.new.files in
    let new = g.F.Files.folder c.logged_after.new.files in
    elim c.logged_after.ensures.out [
      | inl x ↦ subst (HasLogged c.args.terms.now c.args.log.now old new) (sym x.1) (inr (inl (record {
        mid = mid;
        terms = c.in_ok-award.award;
        first = record { value = c.in_ok-award.ensures.value; loads = c.in_ok-award.ensures.loads };
        status = x.0;
        is = refl;
        why = x.2;
        loads = c.logged_after.ensures.loads;
      })))
      | inr x ↦ has-logged c.args.terms.now c.args.log.now old new c.in_ok-award.award x.0 (record {
        mid = mid;
        first = record { value = c.in_ok-award.ensures.value; loads = c.in_ok-award.ensures.loads };
        value = x.1;
        loads = c.logged_after.ensures.loads;
      }) c.logged_after.result x.2
    ]
