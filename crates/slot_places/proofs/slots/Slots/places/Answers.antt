use Rattle.std.proofs.Common.{◌≤◌, length, arith}
use Rattle.slot_places.proofs.ReadLaws.{bidders-read, count-most}
use Rattle.slot_places.proofs.slots.Slots.places.Goals as goal

pub overflow_cast-result : goal.overflow_cast-result
overflow_cast-result c =
    let all = bidders-read c.self.inside c.args.self.now c.self.view_is in
    let known : c.args.j ≤ length c.self.inside.bidders.items = omega (arith, all) in
    let most = count-most c.self.inside c.args.self.now c.self.view_is c.args.j known c.requires.0 c.index-bidder.result.now c.index-bidder.ensures
    c.self.invariant in
    omega (arith, most, c.len.ensures)

pub returns-clause-most : goal.returns-clause-most
returns-clause-most c =
    let all = bidders-read c.self.inside c.args.self.now c.self.view_is in
    let known : c.args.j ≤ length c.self.inside.bidders.items = omega (arith, all) in
    let most = count-most c.self.inside c.args.self.now c.self.view_is c.args.j known c.requires.0 c.index-bidder.result.now c.index-bidder.ensures
    c.self.invariant in
    omega (arith, most, c.len.ensures)
