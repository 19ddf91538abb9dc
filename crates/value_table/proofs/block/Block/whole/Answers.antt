use Rattle.value_table.proofs.BlockLaws.{whole-block}
use Rattle.value_table.proofs.block.Block.whole.Goals as goal

pub invariant_of-result : goal.invariant_of-result
invariant_of-result c = record {
  is = whole-block c.args.supply.now c.args.lots.now c.counts-radices.result.now c.widths.result.now c.counts-counts.result.now c.place.result
      c.used_categories-used.result c.counts-radices.ensures.counts c.widths.ensures c.counts-counts.ensures c.counts-radices.ensures.kept.states
      c.requires.categories c.requires.fits c.place.ensures.place c.used_categories-used.ensures.some c.used_categories-used.ensures.most
      c.used_categories-used.ensures.rest;
}
