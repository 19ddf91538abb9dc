-- One entry more.
use Rattle.std.proofs.Common.{[], subst, sym}
use Rattle.relative_cap.specs.Tested.{AreHighs}
use Rattle.relative_cap.proofs.TestedLaws.{entries-more, entries-all}
use Rattle.relative_cap.proofs.tester.highs_over.Goals as goal

pub loop-entry-init : goal.loop-entry-init
loop-entry-init c = λ history points j clock each. subst (AreHighs history j []) (sym c.in_ok-highs.ensures.items) clock

pub loop-entry-preserved : goal.loop-entry-preserved
loop-entry-preserved c = λ history points j clock each.
    entries-more history points j c.args.entries.now c.loop-entry.entry-index c.entry-item.result c.loop-entry.highs.items c.raise.new.highs.items
    c.loop-entry-test.true c.entry-item.is each
    (c.loop-entry.invariant history points j clock each) c.raise.ensures

pub returns : goal.returns
returns c = λ history points j clock each.
    entries-all history j c.args.entries.now c.loop-entry.entry-index c.loop-entry.highs.items c.loop-entry-test.false
    (c.loop-entry.invariant history points j clock each)
