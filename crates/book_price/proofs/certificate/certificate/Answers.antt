use Rattle.std.proofs.Common.{◌≡◌, ◌∙◌, ap, arith, rules, subst, sym, to_z, of_z, List, map}
use Rattle.std.proofs.lemmas.Int.{to_z-of_z}
use Rattle.std.specs.Int.{w128}
use Rattle.auction_model.specs.Prices.{weight_of}
use Rattle.cert_soundness.specs.Priced.{IsPricedCert}
use Rattle.core_price.specs.declared.priced.PricedRow.{PricedRow}
use Rattle.core_laws.specs.Winners.{for_bidders}
use Rattle.book_price.specs.Made.{row_from}
use Rattle.book_price.proofs.Certified.{long, made_is, made_shape, priced_passes, value_found, width}
use Rattle.book_price.proofs.certificate.certificate.Goals as goal

pub all_rows-requires : goal.all_rows-requires
all_rows-requires c =
    let kept = c.kept.ensures in
    omega (arith, kept.bidders, long c.args.book.now c.args.winners c.args.whole.now c.args.alone.now c.requires.0 c.args.priced.now kept c.requires.1)

pub invariant_of-result : goal.invariant_of-result
invariant_of-result c =
    let z = c.args.winners in
    let d : to_z w128 (of_z w128 c.args.priced.now.den) ≡ c.args.priced.now.den = to_z-of_z w128 c.args.priced.now.den (search rules) in
    let v : to_z w128 (of_z w128 c.most-value.result) ≡ c.most-value.result = to_z-of_z w128 c.most-value.result (search rules) in
    let kept = c.kept.ensures in
    record {
      rules = made_shape c.args.book.now z c.args.whole.now c.args.alone.now c.requires.0 c.args.priced.now kept c.requires.1 _ _ c.in_ok-table.table
          c.in_ok-withouts.withouts c.from_vec-pay.result c.in_ok-rows.rows c.in_ok-lowered.lowered
          d (v ∙ value_found c.args.book.now z c.args.whole.now c.args.alone.now c.requires.0 c.args.priced.now kept c.requires.1 c.most-value.result
          c.most-value.ensures.most) (c.in_ok-table.ensures ∙ c.grid.ensures) c.in_ok-withouts.ensures
          (c.from_vec-pay.ensures ∙ c.in_ok-for_bidders.ensures ∙ ap (for_bidders z) c.items-at.ensures)
          (c.in_ok-rows.ensures ∙ ap (λ (rows : List PricedRow). map (row_from z) rows) c.items-kept.ensures) c.in_ok-lowered.ensures;
    }

pub returns-clause-value : goal.returns-clause-value
returns-clause-value c =
    let z = c.args.winners in
    let d : to_z w128 (of_z w128 c.args.priced.now.den) ≡ c.args.priced.now.den = to_z-of_z w128 c.args.priced.now.den (search rules) in
    let v : to_z w128 (of_z w128 c.most-value.result) ≡ c.most-value.result = to_z-of_z w128 c.most-value.result (search rules) in
    let kept = c.kept.ensures in
    made_is c.args.book.now z c.args.whole.now c.args.alone.now c.requires.0 c.args.priced.now kept c.requires.1 _ _ c.in_ok-table.table
    c.in_ok-withouts.withouts c.from_vec-pay.result c.in_ok-rows.rows c.in_ok-lowered.lowered
    d (v ∙ value_found c.args.book.now z c.args.whole.now c.args.alone.now c.requires.0 c.args.priced.now kept c.requires.1 c.most-value.result
    c.most-value.ensures.most) (c.in_ok-table.ensures ∙ c.grid.ensures) c.in_ok-withouts.ensures
    (c.from_vec-pay.ensures ∙ c.in_ok-for_bidders.ensures ∙ ap (for_bidders z) c.items-at.ensures)
    (c.in_ok-rows.ensures ∙ ap (λ (rows : List PricedRow). map (row_from z) rows) c.items-kept.ensures) c.in_ok-lowered.ensures

pub returns-clause-priced : goal.returns-clause-priced
returns-clause-priced c = λ weights found.
    subst (IsPricedCert c.args.book.now (weight_of weights)) (sym (returns-clause-value c))
    (priced_passes c.args.book.now c.args.winners c.args.whole.now c.args.alone.now weights c.args.priced.now c.kept.ensures found)

pub returns-clause-shape : goal.returns-clause-shape
returns-clause-shape c =
    let kept = c.kept.ensures in
    record {
      bidders_are = long c.args.book.now c.args.winners c.args.whole.now c.args.alone.now c.requires.0 c.args.priced.now kept c.requires.1;
      states_are = rw (c.in_ok-table.ensures, c.grid.ensures) (width c.args.book.now c.args.winners c.args.whole.now c.args.alone.now c.requires.0
          c.args.priced.now kept c.requires.1);
    }
