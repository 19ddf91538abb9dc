use Rattle.std.proofs.Common.{subst}
use Rattle.weights_file.specs.declared.read.Stage.{Stage}
use Rattle.weights_file.specs.Stages.{Step}
use Rattle.weights_file.proofs.read.take_line.Goals as goal

pub returns-in-Listing-clause-form : goal.returns-in-Listing-clause-form
returns-in-Listing-clause-form c = λ err t step.
    c.take_listed.ensures.form err t (subst (λ (s : Stage). Step c.args.book.now s c.args.line.now t) c.in-Listing.is step)
