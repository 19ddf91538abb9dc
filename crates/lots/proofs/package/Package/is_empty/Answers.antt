use Rattle.std.proofs.Common.{◌∙◌, ap}
use Rattle.std.specs.Prelude.{[]}
use Rattle.auction_model.specs.Package.{is_within}
use Rattle.lots.proofs.CountLaws.{none-within}
use Rattle.lots.proofs.package.Package.is_empty.Goals as goal

pub returns : goal.returns
returns c = c.have_none.ensures ∙ none-within c.held.result.now ∙ ap (λ p. is_within p []) c.held.ensures.value
