use Rattle.std.proofs.Common.{◌≡◌, ◌∙◌, ◌+◌, ◌-◌, ◌*◌, ap, arith, rules, ℕ, Some, sym, subst, refl, ◌<ℤ◌, ℤ}
use Rattle.std.proofs.lemmas.Int.{to_z-of_z, ints}
use Rattle.auction_model.specs.Place.{states_of}
use Rattle.auction_model.specs.Table.{entry_at}
use Rattle.auction_model.proofs.PlaceLaws.{states-positive}
use Rattle.choices.specs.Lines.{width_of}
use Rattle.cert_soundness.specs.Tests.{bidders_of, states}
use Rattle.table_check.specs.LineTests.{TestsTable}
use Rattle.cert_check.specs.Places.{IsFirstFailing}
use Rattle.cert_check.proofs.TableLaws.{test-rule, test-most}
use Rattle.table_check.proofs.TableLines.{table-width}
use mir.Val.{SFits}
use mir.Syntax.{w128}
use Rattle.cert_check.proofs.whole.grids.table_test.Goals as goal

pub overflow_sub-states : goal.overflow_sub-states
overflow_sub-states c = omega (arith, c.states-states.ensures.states, states-positive c.supply.result.now)

pub entry-requires-clause-place : goal.entry-requires-clause-place
entry-requires-clause-place c =
    let book = c.args.offers.now.book.now in
    let same : c.states-states.result ≡ states book = c.states-states.ensures.states ∙ ap states_of c.supply.ensures.supply in
    let width : width_of c.args.table.now ≡ states book = table-width (bidders_of book) (states book) c.args.table.now c.requires.table 0 (omega arith) in
    omega (arith, same, width, states-positive book.supply)

pub returns-in-Some : goal.returns-in-Some
returns-in-Some c = test-rule c.args.offers.now c.args.table.now c.args.most c.in-Some.place c.in-Some.ensures

pub returns-then-entry-most : goal.returns-then-entry-most
returns-then-entry-most c =
    let o = c.args.offers.now in
    let most_fits : SFits w128 c.args.most = search rules in
    let entry_fits : SFits w128 c.entry.result = search rules in
    let same : c.states-states.result ≡ states o.book.now = c.states-states.ensures.states ∙ ap states_of c.supply.ensures.supply in
    let entry_is : c.entry.result ≡ entry_at c.args.table.now 0 (states o.book.now - 1) = c.entry.ensures
    ∙ ap (λ (n : ℕ). entry_at c.args.table.now 0 (n - 1)) same in
    let test = simp to_z-of_z at c.if-entry-most.true in
    let above : c.args.most <ℤ c.entry.result = grind (arith, ints, test) in
    let number : (c.bidders.result + 1) * c.states-states.result ≡ (bidders_of o.book.now + 1) * states o.book.now =
    rw (c.bidders.ensures.bidders, same) refl in
    subst (λ (n : ℕ). IsFirstFailing (TestsTable o c.args.table.now c.args.most) (Some n)) (sym number)
    (test-most o c.args.table.now c.args.most c.in_default.ensures (subst (λ (z : ℤ). c.args.most <ℤ z) entry_is above))
