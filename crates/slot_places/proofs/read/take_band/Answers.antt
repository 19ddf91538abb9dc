use Rattle.std.proofs.Common.{◌∙◌, Some, ap, refl, arith}
use Rattle.limits.specs.declared.LimitKind.TheVariants.{Lots}
use Rattle.slot_places.specs.declared.read.Stage.TheVariants.{Listing}
use Rattle.slot_places.specs.Stages.{opened}
use Rattle.bid_book.proofs.StopLaws.{one_limit}
use Rattle.slot_places.proofs.EntryLaws.{many_lots}
use Rattle.slot_places.proofs.read.take_band.Goals as goal

pub returns-then-band-gt-MOST_LOTS-clause-limit : goal.returns-then-band-gt-MOST_LOTS-clause-limit
returns-then-band-gt-MOST_LOTS-clause-limit c = λ kind count err.
    let found = c.in-Some.ensures.found in
    let told = one_limit (Lots, c.in-Some.band) (kind, count) err in (
      Listing (opened c.in-Some.band),
      (c.in-Some.band, found.1, found.0, refl),
      many_lots c.in-Some.band (omega arith) ∙ ap Some told,
    )
