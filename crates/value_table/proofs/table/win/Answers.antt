use Rattle.std.proofs.Common.{pos, ◌∙◌}
use Rattle.value_table.proofs.LoweredLaws.{first-from}
use Rattle.value_table.proofs.Plain.{plain-range, plain-winning}
use Rattle.value_table.proofs.table.win.Goals as goal

pub new-lowered-requires-clause-bidders : goal.new-lowered-requires-clause-bidders
new-lowered-requires-clause-bidders c = rw c.deref.ensures.value (c.in_ok-surplus.ensures.count ∙ c.bidders.ensures.bidders)

pub new-lowered-requires-clause-range : goal.new-lowered-requires-clause-range
new-lowered-requires-clause-range c =
    rw c.deref.ensures.value (plain-range c.args.book.now 0 c.in_ok-surplus.surplus.items c.kept.ensures c.in_ok-surplus.ensures.zeros)

pub returns : goal.returns
returns c =
    let own = first-from c.args.book.now 0 (pos 1) c.deref.result.now c.new-lowered.result c.new-lowered.ensures c.in_ok-numbers.numbers
    c.in_ok-numbers.ensures in
    rw c.new.ensures (plain-winning c.args.book.now c.in_ok-surplus.surplus.items c.in_ok-numbers.numbers c.in_ok-surplus.ensures.zeros
    (rw c.deref.ensures.value at own))
