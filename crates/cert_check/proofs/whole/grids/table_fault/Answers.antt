use Rattle.std.proofs.Common.{◌≡◌, ◌∙◌, ◌+◌, ◌*◌, ◌<◌, ◌≤◌, ap, arith, ℕ, inl, inr, subst, Some, sym}
use Rattle.std.proofs.lemmas.Bool.{cases_lt}
use Rattle.auction_model.specs.Place.{states_of}
use Rattle.cert_soundness.specs.Tests.{bidders_of, states}
use Rattle.table_check.specs.LineTests.{ObeysIn, RulesAt}
use Rattle.cert_check.specs.Places.{IsFirstFailing}
use Rattle.cert_check.proofs.TableLaws.{table-fails, line-keeps}
use Rattle.cert_check.proofs.whole.grids.table_fault.Goals as goal

pub returns-then-found-states : goal.returns-then-found-states
returns-then-found-states c =
    let o = c.args.offers.now in
    let k = c.loop-k.k in
    let r = c.rule_fault-found.result.place in
    let same : c.states-states.result ≡ states o.book.now = c.states-states.ensures.states ∙ ap states_of c.supply.ensures.supply in
    let low : c.rule_fault-found.result.place < states o.book.now = omega (arith, c.if-found-states.true, same) in
    let inside : c.loop-k.k ≤ bidders_of o.book.now = omega (arith, c.loop-k-test.true, c.bidders-k-end.ensures.bidders) in
    subst (λ (n : ℕ). IsFirstFailing (RulesAt o c.args.table.now) (Some (k * n + r))) (sym same)
    (table-fails o c.args.table.now c.requires.table k r inside low (λ l s less. c.loop-k.invariant.obeys l s less) c.rule_fault-found.ensures.place)

pub loop-k-preserved : goal.loop-k-preserved
loop-k-preserved c = record {
  obeys = λ k s few.
      let o = c.args.offers.now in
      let same : c.states-states.result ≡ states o.book.now = c.states-states.ensures.states ∙ ap states_of c.supply.ensures.supply in
      let past : states o.book.now ≤ c.rule_fault-found.result.place = omega (arith, c.if-found-states.false, same) in
      elim (cases_lt k c.loop-k.k) [
        | inl earlier ↦ c.loop-k.invariant.obeys k s earlier
        | inr here ↦
            let is : c.loop-k.k ≡ k = omega (arith, few, here) in
            subst (λ (n : ℕ). ObeysIn o c.args.table.now n s) is (line-keeps o c.args.table.now c.requires.table c.loop-k.k c.rule_fault-found.result.place past
            c.rule_fault-found.ensures.place s)
      ];
  grows = c.rule_fault-found.ensures.grows;
}
