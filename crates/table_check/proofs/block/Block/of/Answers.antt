use Rattle.table_check.proofs.BlockLaws.{whole-block}
use Rattle.table_check.proofs.block.Block.of.Goals as goal

pub invariant_of-result : goal.invariant_of-result
invariant_of-result c = record {
  is = whole-block c.used_categories-used.result c.place.result c.args.supply.now c.counts.result.now c.widths.result.now c.args.lots.now
      c.counts-counts.result.now c.counts.ensures.counts c.counts-counts.ensures c.widths.ensures c.used_categories-used.ensures.some
      c.used_categories-used.ensures.most c.requires.categories c.used_categories-used.ensures.rest c.kept.ensures.kept.states c.requires.fits
      c.place.ensures.place;
}
