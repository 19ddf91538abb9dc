use Rattle.std.proofs.Common.{◌≡◌, ◌-◌, arith, rules, get_or, pos}
use Rattle.std.proofs.lemmas.Int.{to_z-of_z}
use Rattle.value_table.proofs.Sizes.{surplus-small, worth-small}
use Rattle.value_table.specs.Counted.{counted}
use mir.Val.{SFits}
use mir.Syntax.{w128}
use Rattle.value_table.proofs.lowered_bids.LoweredBids.idle.Goals as goal

pub idle_worth-requires : goal.idle_worth-requires
idle_worth-requires c =
    let own = get_or c.args.self.now.surplus.now (c.args.j - 1) (pos 0) in
    let own_fits : SFits w128 own = search rules in
    rw (to_z-of_z w128 own own_fits) (surplus-small c.args.self.now c.args.j c.requires.0 c.requires.1)

pub returns-clause-size : goal.returns-clause-size
returns-clause-size c =
    let own = get_or c.args.self.now.surplus.now (c.args.j - 1) (pos 0) in
    let own_fits : SFits w128 own = search rules in
    let result_fits : SFits w128 c.idle_worth.result = search rules in
    let is : c.idle_worth.result ≡ counted c.args.self.now c.args.j 0 = simp to_z-of_z at c.idle_worth.ensures in
    rw (to_z-of_z w128 c.idle_worth.result result_fits, is) (worth-small c.args.self.now c.args.j 0 c.requires.0 c.requires.1 (omega arith))
