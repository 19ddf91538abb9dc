-- After the last round the list alone is left, and each round puts its clock bid in.
use Rattle.std.proofs.Common.{◌+◌, ◌-◌, map, refl, subst, sym, arith}
use Rattle.clock_stage.specs.Kept.{categories_in}
use Rattle.relative_cap.specs.OwnRounds.{bid_value}
use Rattle.bid_desk.specs.Lists.{IsKept}
use Rattle.bid_desk.proofs.BookLaws.{bids-none, bids-more}
use Rattle.bid_desk.proofs.book.bids_of.Goals as goal

pub loop-r-init : goal.loop-r-init
loop-r-init c = record {
  inside = omega (arith, c.rounds-r.ensures.rounds);
  bids = bids-none c.args.history.now c.args.j (categories_in c.args.history.now) c.rounds-r.result (map bid_value c.args.submitted.now)
      (map bid_value c.in_ok-bids.bids.items)
      c.requires.submitted c.in_ok-bids.ensures c.rounds-r.ensures.rounds;
  kept = subst (IsKept (categories_in c.args.history.now)) (sym c.in_ok-bids.ensures) c.requires.submitted.kept;
}

pub loop-r-preserved : goal.loop-r-preserved
loop-r-preserved c = record {
  inside = omega (arith, c.loop-r.invariant.inside);
  bids = bids-more c.args.history.now c.args.j c.loop-r.r (c.loop-r.r - 1 + 1) (map bid_value c.args.submitted.now) (map bid_value c.loop-r.bids.items)
      (map bid_value c.put_clock_bid.new.list.items)
      (omega (arith, c.loop-r-test.true)) c.loop-r.invariant.inside refl c.loop-r.invariant.bids c.in_ok-put_clock_bid.ensures.bids;
  kept = c.in_ok-put_clock_bid.ensures.kept;
}
