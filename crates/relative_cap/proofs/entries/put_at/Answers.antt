-- The entry at the place has the amount of the bid.
use Rattle.std.proofs.Common.{◌<◌, length, ap, arith, List}
use Rattle.relative_cap.specs.declared.entries.TestedEntry.{TestedEntry}
use Rattle.relative_cap.proofs.TestedLaws.{set-at, bid-there}
use Rattle.relative_cap.proofs.entries.put_at.Goals as goal

pub returns-then-stands_at-clause-put : goal.returns-then-stands_at-clause-put
returns-then-stands_at-clause-put c =
    let there = c.stands_at.ensures c.if-stands_at.true in
    let inside : c.args.place < length c.args.entries.now.items = omega (arith, there.0, ap (λ (es : List TestedEntry). length es) c.deref.ensures.value) in
    set-at c.args.place c.args.entries.now.items _ _ inside
    (bid-there c.deref.result.now c.args.entries.now.items c.args.place c.index_mut.result.now c.args.bid.now c.deref.ensures.value inside there.1
    c.index_mut.ensures.value)
