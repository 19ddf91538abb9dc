-- The price of what was held is at most its highest amount.
use Rattle.std.proofs.Common.{◌≡◌, map, refl, ap, ◌∙◌, arith}
use Rattle.auction_rules.specs.Caps.{highest}
use Rattle.relative_cap.specs.OwnRounds.{bid_value, own_in, rounds_of}
use Rattle.relative_cap.proofs.AmountLaws.{price-least}
use Rattle.relative_cap.proofs.caps.cap_by.Goals as goal

pub cap_from-requires-clause-least : goal.cap_from-requires-clause-least
cap_from-requires-clause-least c =
    let is : c.highest-high.result ≡ highest (rounds_of c.args.j c.args.history.now) (map bid_value c.args.list.now)
    (own_in c.args.history.now c.args.j c.args.r).held
    = c.highest-high.ensures.highest ∙ ap (highest (rounds_of c.args.j c.args.history.now) (map bid_value c.args.list.now)) c.package.ensures.package in
    omega (
      arith,
      is,
      price-least c.args.history.now (map bid_value c.args.list.now) c.args.j c.args.r (own_in c.args.history.now c.args.j c.args.r).prices
          (own_in c.args.history.now c.args.j c.args.r).held
          c.requires.round.0 c.requires.round.1 refl refl,
    )
