use Rattle.std.proofs.Common.{◌≡◌, ap, ◌∙◌, List, ℕ}
use Rattle.auction_model.specs.Place.{left_at, place_of}
use Rattle.auction_model.proofs.PlaceLaws.{left_at-place_of}
use Rattle.lots.proofs.supply.Supply.place.Goals as goal

pub returns-clause-package : goal.returns-clause-package
returns-clause-package c =
    let supply = c.args.self.now in
    let counts = c.args.«package».now in
    let at : c.place_among.result ≡ place_of supply counts =
    c.place_among.ensures.place ∙ ap (λ (l : List ℕ). place_of l c.counts.result.now) (c.deref.ensures.value ∙ c.self.view_is)
    ∙ ap (place_of supply) c.counts.ensures in
    ap (left_at supply) at ∙ left_at-place_of supply counts c.requires.categories c.requires.fits
