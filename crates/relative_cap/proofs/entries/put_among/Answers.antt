-- What is put in or overwritten follows the entries that stay.
use Rattle.std.proofs.Common.{◌<◌, List, length, map, take, ap, refl, arith}
use Rattle.relative_cap.specs.declared.entries.TestedEntry.{TestedEntry}
use Rattle.relative_cap.specs.Tested.{tested_bid}
use Rattle.relative_cap.proofs.TestedLaws.{front-removed, front-inserted, front-set, inserted-each, bid-there}
use Rattle.relative_cap.proofs.entries.put_among.Goals as goal

pub loop-entries-init : goal.loop-entries-init
loop-entries-init c = record { room = c.requires.place; each = c.requires.entries; same = refl }

pub loop-entries-preserved : goal.loop-entries-preserved
loop-entries-preserved c =
    let inside : c.args.place < length c.loop-entries.entries.items
    = omega (arith, c.comes_before.ensures c.loop-entries-test.true, ap (λ (es : List TestedEntry). length es) c.deref.ensures.value) in
    front-removed c.args.history.now c.args.points.now c.args.j c.args.place (take c.args.place (map tested_bid c.args.entries.now.items))
    c.loop-entries.entries.items c.remove.new.self.items
    inside c.loop-entries.invariant c.remove.ensures.items

pub returns-then-stands_at-clause-put : goal.returns-then-stands_at-clause-put
returns-then-stands_at-clause-put c =
    let there = c.stands_at.ensures c.if-stands_at.true in
    let inside : c.args.place < length c.loop-entries.entries.items = omega (
      arith,
      there.0,
      ap (λ (es : List TestedEntry). length es)
          c.deref-2.ensures.value,
    ) in
    front-set c.args.history.now c.args.points.now c.args.j c.args.place (take c.args.place (map tested_bid c.args.entries.now.items))
    c.loop-entries.entries.items _ _ inside
    c.loop-entries.invariant
    (bid-there c.deref-2.result.now c.loop-entries.entries.items c.args.place c.index_mut.result.now c.args.bid.now c.deref-2.ensures.value inside there.1
    c.index_mut.ensures.value)

pub returns-clause-entries : goal.returns-clause-entries
returns-clause-entries c =
    inserted-each c.args.history.now c.args.points.now c.args.j c.args.place (take c.args.place (map tested_bid c.args.entries.now.items))
    c.loop-entries.entries.items c.insert.new.self.items
    c.entry_for-entry.result c.loop-entries.invariant c.in_ok-insert.ensures.items c.entry_for-entry.ensures.tested

pub returns-clause-put : goal.returns-clause-put
returns-clause-put c =
    front-inserted c.args.history.now c.args.points.now c.args.j c.args.place (take c.args.place (map tested_bid c.args.entries.now.items))
    c.loop-entries.entries.items c.insert.new.self.items
    c.entry_for-entry.result _ c.loop-entries.invariant c.in_ok-insert.ensures.items c.entry_for-entry.ensures.bid
