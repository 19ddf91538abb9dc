use Rattle.std.proofs.Common.{◌≡◌, rules}
use Rattle.auction_model.specs.Place.{left_at}
use Rattle.auction_model.proofs.PlaceLaws.{left_at-within, place_of-left_at}
use Rattle.lots.proofs.supply.Supply.package_at.Goals as goal

pub returns-clause-fits : goal.returns-clause-fits
returns-clause-fits c =
    let supply = c.args.self.now in
    let is : c.of_counts.result ≡ left_at supply c.args.place = search rules in
    rw is (left_at-within supply c.args.place c.requires)

pub returns-clause-place : goal.returns-clause-place
returns-clause-place c =
    let supply = c.args.self.now in
    let is : c.of_counts.result ≡ left_at supply c.args.place = search rules in
    rw is (place_of-left_at supply c.args.place c.requires)
