use Rattle.std.proofs.Common.{◌≡◌, ◌∙◌, ◌+◌, ◌*◌, ap, rules, refl, ℕ, Some, None, sym, subst, replicate, pos, arith}
use Rattle.std.proofs.lemmas.Int.{to_z-of_z}
use mir.Val.{SFits}
use mir.Syntax.{w128}
use Rattle.auction_model.specs.Place.{states_of}
use Rattle.cert_soundness.specs.Tests.{C3, bidders_of, states}
use Rattle.cert_check.specs.Fields.{cert_headed}
use Rattle.cert_check.specs.Places.{IsFirstFailing}
use Rattle.cert_check.proofs.Worths.{plain-small}
use Rattle.cert_check.proofs.ValueLaws.{value-plain, value-table, value-bidder, value-holds}
use Rattle.cert_check.proofs.whole.tables.value_fault.Goals as goal

pub invariant_of-offers : goal.invariant_of-offers
invariant_of-offers c = record {
  sizes = plain-small c.args.book.now (replicate 16 (pos 0)) 16 c.bidders-bidders.ensures.kept refl
      (omega (arith, c.bidders-bidders.ensures.bidders, c.bidders-bidders.ensures.most));
}

pub returns-in-Some : goal.returns-in-Some
returns-in-Some c =
    let value_fits : SFits w128 c.args.value = search rules in
    let cert = cert_headed c.args.value c.args.choice.now c.args.table.now in
    value-table c.args.book.now cert c.in-Some.place (value-plain c.args.book.now cert (replicate 16 (pos 0)) 16 (Some c.in-Some.place) refl
    (simp to_z-of_z at c.in-Some.ensures))

pub returns-in_err-bidder : goal.returns-in_err-bidder
returns-in_err-bidder c =
    let book = c.args.book.now in
    let value_fits : SFits w128 c.args.value = search rules in
    let cert = cert_headed c.args.value c.args.choice.now c.args.table.now in
    subst (IsFirstFailing (C3 book (cert_headed c.args.value c.args.choice.now c.args.table.now))) (sym c.from_residual.ensures)
    (value-holds book cert (value-plain book cert (replicate 16 (pos 0)) 16 None refl (simp to_z-of_z at c.in_default.ensures))
    (simp to_z-of_z at (c.in_err-bidder.ensures {u = tt})))

pub returns : goal.returns
returns c =
    let book = c.args.book.now in
    let value_fits : SFits w128 c.args.value = search rules in
    let cert = cert_headed c.args.value c.args.choice.now c.args.table.now in
    let same : c.states.result ≡ states book = c.states.ensures.states ∙ ap states_of c.supply.ensures.supply in
    let number : (c.bidders-bidders.result + 1) * c.states.result ≡ (bidders_of book + 1) * states book = rw (c.bidders-bidders.ensures.bidders, same) refl in
    subst (λ (n : ℕ). IsFirstFailing (C3 book (cert_headed c.args.value c.args.choice.now c.args.table.now)) (Some (n + c.in_ok-bidder.bidder))) (sym number)
    (value-bidder book cert c.in_ok-bidder.bidder (value-plain book cert (replicate 16 (pos 0)) 16 None refl (simp to_z-of_z at c.in_default.ensures))
    (simp to_z-of_z at c.in_ok-bidder.ensures))
