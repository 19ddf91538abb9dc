use Rattle.std.proofs.Common.{◌∙◌, ap}
use Rattle.auction_model.specs.Place.{states_of}
use Rattle.value_table.specs.SideValues.{SidesValue}
use Rattle.value_table.proofs.SideLaws.{full-sides}
use Rattle.value_table.proofs.sides.Sides.build.Goals as goal

pub invariant_of-result : goal.invariant_of-result
invariant_of-result c =
    let sides : SidesValue = record { bidders = c.bidders.result; states = c.states.result; right = c.in_ok-right.right; left = c.in_ok-left.left } in
    full-sides c.args.book.now sides c.bidders.ensures.kept (record {
      bidders = c.bidders.ensures.bidders;
      states = c.states.ensures.states ∙ ap states_of c.supply.ensures.supply;
      right = c.in_ok-right.ensures.exact;
      plain = c.in_ok-right.ensures.plain;
      left = c.in_ok-left.ensures.exact;
    })
