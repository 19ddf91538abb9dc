use Rattle.std.proofs.Common.{ℕ, List, subst, refl, length}
use Rattle.table_check.specs.Growth.{Grows}
use Rattle.table_check.proofs.GrowthLaws.{line-needless}
use Rattle.table_check.proofs.LineLaws.{line-kept, line-more}
use Rattle.table_check.proofs.lines.pair_fault.Goals as goal

pub loop-i-preserved : goal.loop-i-preserved
loop-i-preserved c =
    line-more c.args.offers.now c.args.j c.args.lines.now.line.now c.args.lines.now.below.now c.loop-i.i
    (length c.args.lines.now.line.now) c.loop-i.found c.exact_fault-found.result c.loop-i.invariant c.exact_fault-found.ensures

pub loop-i-preserved-then-is_needless : goal.loop-i-preserved-then-is_needless
loop-i-preserved-then-is_needless c =
    let o = c.args.offers.now in
    let grows : Grows o.book.now.supply c.args.lines.now.below.now = subst
    (λ (l : List ℕ). Grows l c.args.lines.now.below.now) c.supply-supply.ensures.supply (c.below_grows-grows.ensures c.if-grows.true) in
    line-needless o c.args.j c.args.lines.now.line.now c.args.lines.now.below.now c.loop-i.i
    (length c.args.lines.now.line.now) c.loop-i.found c.requires.line grows (c.if-is_needless.ensures refl) c.loop-i.invariant

pub loop-i-preserved-then-is_bid_kept : goal.loop-i-preserved-then-is_bid_kept
loop-i-preserved-then-is_bid_kept c =
    line-kept c.args.offers.now c.args.j c.args.lines.now.line.now c.args.lines.now.below.now c.loop-i.i (length c.args.lines.now.line.now) c.loop-i.found
    c.loop-i.invariant (c.is_bid_kept.ensures c.if-is_bid_kept.true)
