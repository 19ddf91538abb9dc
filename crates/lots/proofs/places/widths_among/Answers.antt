use Rattle.std.proofs.Common.{◌∙◌, ◌<◌, ◌+◌, ◌++◌, sym, ap, length, drop, arith}
use Rattle.auction_model.specs.Place.{widths_of}
use Rattle.lots.proofs.Steps.{weight-step, widths-step}
use Rattle.lots.proofs.places.widths_among.Goals as goal

pub loop-i-preserved : goal.loop-i-preserved
loop-i-preserved c =
    let supply = c.args.supply.now in
    let inside : c.loop-i.i < length supply = omega arith in
    record {
      width = weight-step supply c.loop-i.i c.loop-i.width inside c.loop-i.invariant.width;
      made = ap (λ l. l ++ widths_of (drop (c.loop-i.i + 1) supply)) c.in_ok-push.ensures.items
          ∙ sym (widths-step supply c.loop-i.widths.items c.loop-i.i c.loop-i.width inside c.loop-i.invariant.width)
          ∙ c.loop-i.invariant.made;
    }
