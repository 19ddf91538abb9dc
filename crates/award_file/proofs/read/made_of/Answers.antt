use Rattle.std.proofs.Common.{◌≡◌, ℕ, ◌≤◌, None, List, length, map, sym, ap, subst, ◌∙◌, arith}
use Rattle.std.proofs.lemmas.Result.{err_from_is_err_and}
use Rattle.book_grammar.specs.BookForm.{IsOffer}
use Rattle.book_grammar.specs.BookLines.{supply_excess}
use Rattle.award_file.specs.declared.read.categories.Category.{Category as Read}
use Rattle.award_file.specs.Award.{IsAward, IsSteps, steps_with}
use Rattle.award_file.specs.Parts.{counts, terms_value}
use Rattle.award_file.specs.Reading.{IsLimit, bidders_excess, terms_excess}
use Rattle.award_file.proofs.AwardLaws.{offer-stated, steps-stated}
use Rattle.award_file.proofs.PartLaws.{counts-are, parts-make, first-limits, bidders-exceed, none-exceeded}
use Rattle.award_file.proofs.StatedAwards.{award-stated}
use Rattle.award_file.proofs.read.made_of.Goals as goal

pub make_supply-requires : goal.make_supply-requires
make_supply-requires c =
    let p = c.args.parts.now in
    subst IsOffer (counts-are p.categories.items ∙ ap counts (sym c.deref.ensures.value)) (offer-stated (terms_value p) c.requires)

pub returns-in_err-supply-clause-err : goal.returns-in_err-supply-clause-err
returns-in_err-supply-clause-err c =
    let p = c.args.parts.now in
    let e = err_from_is_err_and c.from_residual.result c.from_residual.ensures.1 in
    let are = ap counts c.deref.ensures.value ∙ sym (counts-are p.categories.items) in
    let limit : IsLimit (supply_excess (terms_value p).supply) c.in_err-supply.field-0.0 =
    subst (λ (ns : List ℕ). IsLimit (supply_excess ns) c.in_err-supply.field-0.0) are c.in_err-supply.ensures.err in
    rw (e.1, e.2) (first-limits (supply_excess (terms_value p).supply) (bidders_excess (length (terms_value p).bidders)) _ limit)

pub returns-then-bidders-gt-MOST_BIDDERS-clause-err : goal.returns-then-bidders-gt-MOST_BIDDERS-clause-err
returns-then-bidders-gt-MOST_BIDDERS-clause-err c =
    let p = c.args.parts.now in
    let are = ap counts c.deref.ensures.value ∙ sym (counts-are p.categories.items) in
    let none : supply_excess (terms_value p).supply ≡ None = ap supply_excess (sym are) ∙ c.in_ok-supply.ensures.ok.1 in
    let count : c.count-bidders.result ≡ length (terms_value p).bidders = c.count-bidders.ensures.count in
    rw count (bidders-exceed (supply_excess (terms_value p).supply) (length (terms_value p).bidders) none
    (omega (arith, count, c.if-bidders-gt-MOST_BIDDERS.true)))

pub new-requires : goal.new-requires
new-requires c = subst (λ ts. IsSteps (steps_with c.args.parts.now.tick ts)) (sym c.deref-4.ensures.value)
    (steps-stated (terms_value c.args.parts.now) c.requires)

pub returns-clause-ok : goal.returns-clause-ok
returns-clause-ok c =
    let p = c.args.parts.now in
    let supply : c.in_ok-supply.supply ≡ counts p.categories.items = c.in_ok-supply.ensures.ok.0 ∙ ap counts c.deref.ensures.value in
    let points = c.in_ok-points.ensures ∙ ap (λ (cs : List Read). map (λ c. c.points) cs) c.deref-2.ensures.value in
    let reserves = c.in_ok-reserves.ensures ∙ ap (λ (cs : List Read). map (λ c. c.reserve) cs) c.deref-3.ensures.value in
    let steps = c.in_ok-steps.ensures ∙ ap (λ ts. steps_with p.tick ts) c.deref-4.ensures.value in
    let terms = parts-make p c.in_ok-supply.supply c.in_ok-points.points.items c.in_ok-reserves.reserves.items c.in_ok-steps.steps supply points reserves
    steps in
    let are = ap counts c.deref.ensures.value ∙ sym (counts-are p.categories.items) in
    let none : supply_excess (terms_value p).supply ≡ None = ap supply_excess (sym are) ∙ c.in_ok-supply.ensures.ok.1 in
    let count : c.count-bidders.result ≡ length (terms_value p).bidders = c.count-bidders.ensures.count in
    let few : length (terms_value p).bidders ≤ 16 = omega (arith, count, c.if-bidders-gt-MOST_BIDDERS.false) in
    let within : terms_excess (terms_value p) ≡ None =
    none-exceeded (supply_excess (terms_value p).supply) (length (terms_value p).bidders) none few in
    (within, subst IsAward (sym terms) (award-stated (terms_value p) c.requires within), terms)
