use Rattle.std.proofs.Common.{◌∙◌}
use Rattle.place_price.proofs.FoundLaws.{found-by}
use Rattle.place_price.proofs.pricing.pricing_of.Goals as goal

pub returns : goal.returns
returns c =
    let chooser = c.new-chooser.result in
    let singles = c.in_ok-alone.alone.singles.items in (
      singles,
      found-by c.args.slots.now chooser.slots.now chooser.winners c.args.whole.now singles c.in_ok-alone.alone.parts c.in_ok-priced.priced
          c.new-chooser.ensures.slots (c.new-chooser.ensures.winners ∙ c.in_ok-copied.ensures) c.requires.winning c.requires.value c.requires.table
          c.in_ok-alone.ensures.singles c.in_ok-alone.ensures.parts (rw c.deref.ensures.value at c.in_ok-priced.ensures.priced) c.in_ok-priced.ensures.table,
    )
