use Rattle.std.proofs.Common.{◌≡◌, ◌∙◌, ◌≤◌, ◌^◌, ℕ, ℤ, List, ap, arith, refl, rules, subst, sym, unsigned_abs}
use Rattle.std.proofs.lemmas.Int.{to_z-of_z, fits_signed_from_abs}
use Rattle.auction_model.specs.Place.{states_of}
use Rattle.table_check.specs.Corners.{BothGrow}
use Rattle.table_check.proofs.CornerLaws.{lots-keep}
use mir.Val.{SFits, to_z, of_z}
use mir.Syntax.{w64, w128}
use Rattle.table_check.proofs.lines.fast_bid_rule.Goals as goal

pub rule_holds-requires : goal.rule_holds-requires
rule_holds-requires c =
    let pair = c.args.lines.now in
    let whole = sym c.of-block.ensures.supply in
    record {
      narrow = c.if-not-lines.false;
      places = c.requires.line ∙ ap states_of whole;
      grow = subst (λ (l : List ℕ). BothGrow l c.args.grow pair.line.now pair.below.now) whole c.requires.grow;
    }

pub returns : goal.returns
returns c = λ h.
    let pair = c.args.lines.now in
    let block = c.of-block in
    let z = c.args.worth in
    let given : SFits w128 z = search rules in
    let small : unsigned_abs z ≤ 2 ^ 60 = (rw (to_z-of_z w128 z given) at c.if-not-is_narrow.ensures).0 refl in
    let made : SFits w64 z = fits_signed_from_abs w64 z (omega (arith, small)) in
    let is : to_z w64 (of_z w64 (to_z w128 (of_z w128 z))) ≡ z = ap (λ (n : ℤ). to_z w64 (of_z w64 n)) (to_z-of_z w128 z given) ∙ to_z-of_z w64 z made in
    lots-keep c.args.supply.now block.result.supply.now c.args.lots.now block.result.lots.now pair.line.now pair.below.now
    (to_z w64 (of_z w64 (to_z w128 (of_z w128 z)))) z block.ensures.supply block.ensures.lots block.ensures.rest is (c.rule_holds.ensures h)
