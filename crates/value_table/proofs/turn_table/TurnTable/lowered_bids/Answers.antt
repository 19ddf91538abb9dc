use Rattle.std.proofs.Common.{◌≡◌, length, sym, subst, rules}
use Rattle.std.proofs.lemmas.Int.{to_z-of_z}
use Rattle.value_table.specs.BookTable.{IsInRange}
use Rattle.value_table.specs.Counted.{AreLoweredBids}
use Rattle.value_table.specs.TableValue.{TableValue}
use mir.Val.{SFits}
use mir.Syntax.{w128}
use Rattle.value_table.proofs.turn_table.TurnTable.lowered_bids.Goals as goal

pub new-requires-clause-bidders : goal.new-requires-clause-bidders
new-requires-clause-bidders c =
    rw c.deref.ensures.value
    (subst (λ (t : TableValue). length t.surplus ≡ length c.args.book.now.bidders) (sym c.self.view_is) c.requires.bidders)

pub new-requires-clause-range : goal.new-requires-clause-range
new-requires-clause-range c =
    let den_fits : SFits w128 c.self.inside.den = search rules in
    rw (to_z-of_z w128 c.self.inside.den den_fits, c.deref.ensures.value)
    (subst (λ (t : TableValue). IsInRange c.args.book.now t.skip t.den t.surplus) (sym c.self.view_is) c.requires.range)

pub returns : goal.returns
returns c =
    let den_fits : SFits w128 c.self.inside.den = search rules in
    subst (λ (t : TableValue). AreLoweredBids c.args.book.now t.skip t.den t.surplus c.new.result) c.self.view_is
    (rw (to_z-of_z w128 c.self.inside.den den_fits, c.deref.ensures.value) at c.new.ensures)
