use Rattle.std.proofs.Common.{⊎_elim, ◌≡◌, Some, sym, subst, refl, ◌∙◌, ap}
use Rattle.std.proofs.lemmas.Result.{err_from_is_err_and}
use Rattle.book_grammar.specs.BookLines.{supply_excess}
use Rattle.lots.specs.declared.LotStop.{LotStop}
use Rattle.lots.specs.declared.LotStop.TheVariants as lots
use Rattle.lots.specs.Limits.{IsSupply, supply_stop}
use Rattle.bid_book.proofs.SupplyLaws.{supply_within}
use Rattle.award_file.specs.Parts.{counts}
use Rattle.award_file.specs.Reading.{IsLimit, limit_stop}
use Rattle.award_file.proofs.LimitLaws.{made-within, stops-over}
use Rattle.award_file.proofs.read.make_supply.Goals as goal

pub returns-in_err-supply-clause-err : goal.returns-in_err-supply-clause-err
returns-in_err-supply-clause-err c =
    let p = err_from_is_err_and c.from_residual-in_err-supply.result c.from_residual-in_err-supply.ensures.1 in
    let lots_are = c.deref.ensures.value ∙ c.in_ok-counts.ensures in
    let stop : IsLimit (supply_excess (counts c.args.categories.now)) (limit_stop c.in_err-supply.field-0.0) =
    ⊎_elim
    (λ (none : c.in_err-supply.field-0.0 ≡ lots.Memory). subst (λ (s : LotStop). IsLimit (supply_excess (counts c.args.categories.now)) (limit_stop s))
    (sym none) tt)
    (λ (stops : supply_stop c.deref.result.now ≡ Some c.in_err-supply.field-0.0). stops-over (counts c.args.categories.now) c.in_err-supply.field-0.0
    c.requires (ap supply_stop (sym lots_are) ∙ stops))
    (c.in_err-supply.ensures.stopped c.in_err-supply.field-0.0 refl) in
    rw (p.1, p.2) stop

pub returns-clause-ok : goal.returns-clause-ok
returns-clause-ok c =
    let lots_are = c.deref.ensures.value ∙ c.in_ok-counts.ensures in
    let made = c.in_ok-supply.ensures.made in
    let is : c.in_ok-supply.supply ≡ counts c.args.categories.now = made.0 ∙ lots_are in
    let kept : IsSupply (counts c.args.categories.now) = made-within (counts c.args.categories.now) c.requires (ap supply_stop (sym lots_are) ∙ made.1) in
    (is, supply_within (counts c.args.categories.now) kept)
