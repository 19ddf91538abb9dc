use Rattle.std.proofs.Common.{◌-◌, arith}
use Rattle.std.proofs.lemmas.Bool.{not_from_false}
use Rattle.nearest_point.proofs.Taking.{force_owed, force_near, take_near}
use Rattle.nearest_point.proofs.search.+search.Goals as goal

pub search_from-force-requires : goal.search_from-force-requires
search_from-force-requires t c = (
  omega arith,
  (
    c.requires.problem,
    (
      omega arith,
      (
        force_owed c.args.target.now c.args.weights.now c.args.rows.now c.args.forced.now c.args.from (c.loop-k.k - 1) c.loop-k.k c.loop-k.best (omega arith)
            (omega arith) (omega arith)
            c.requires.owed c.loop-k.invariant.near c.loop-k.invariant.parts (c.is_violated.ensures.below c.if-is_violated.true),
        c.requires.within,
      ),
    ),
  ),
)

pub search_from-loop-k-preserved-then-is_violated : goal.search_from-loop-k-preserved-then-is_violated
search_from-loop-k-preserved-then-is_violated t c = record {
  low = omega arith;
  high = omega arith;
  near = force_near c.args.target.now c.args.weights.now c.args.rows.now c.args.forced.now (c.loop-k.k - 1) c.loop-k.k c.loop-k.best c.in_ok-best-2.best
      (omega arith) (omega arith)
      c.requires.problem c.loop-k.invariant.near c.loop-k.invariant.parts (c.is_violated.ensures.below c.if-is_violated.true) c.in_ok-best-2.ensures.near;
  parts = c.in_ok-best-2.ensures.parts;
}

pub search_from-loop-k-preserved : goal.search_from-loop-k-preserved
search_from-loop-k-preserved t c = record {
  low = omega arith;
  high = omega arith;
  near = take_near c.args.target.now c.args.weights.now c.args.rows.now c.args.forced.now (c.loop-k.k - 1) c.loop-k.k c.loop-k.best (omega arith)
      c.loop-k.invariant.near c.loop-k.invariant.parts (c.is_violated.ensures.above (not_from_false c.is_violated.result c.if-is_violated.false));
  parts = c.loop-k.invariant.parts;
}
