use Rattle.std.proofs.Common.{subst}
use Rattle.slot_places.specs.declared.read.Stage.{Stage}
use Rattle.slot_places.specs.Stages.{Step}
use Rattle.slot_places.proofs.read.take_line.Goals as goal

pub returns-in-Headed-clause-form : goal.returns-in-Headed-clause-form
returns-in-Headed-clause-form c = λ err t step.
    c.take_band.ensures.form err t (subst (λ (s : Stage). Step s c.args.line.now t) c.in-Headed.is step)

pub returns-in-Listing-clause-form : goal.returns-in-Listing-clause-form
returns-in-Listing-clause-form c = λ err t step.
    c.take_listed.ensures.form err t (subst (λ (s : Stage). Step s c.args.line.now t) c.in-Listing.is step)
