-- There are as many raised prices as prices.
use Rattle.std.proofs.Common.{◌≡◌, ◌∙◌, length, ap, arith}
use Rattle.clock_stage.proofs.KeptLaws.{length-raised_prices}
use Rattle.clock_stage.proofs.closes.closing_of.Goals as goal

pub first_above_top-requires : goal.first_above_top-requires
first_above_top-requires c =
    let count : length c.deref-5.result.now ≡ length c.deref-3.result.now =
    ap length (c.deref-5.ensures.value ∙ c.in_ok-prices.ensures) ∙ length-raised_prices c.steps.result.now.tick c.steps.result.now.thresholds
    c.deref-3.result.now c.deref-4.result.now c.counts-2.result.now in
    omega (arith, count, ap length c.deref-3.ensures.value, c.requires.clock.few_categories)
