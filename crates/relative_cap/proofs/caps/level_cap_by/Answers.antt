-- The price of what was held is at most its highest amount.
use Rattle.std.proofs.Common.{◌≡◌, map, refl, ap, ◌∙◌, arith}
use Rattle.auction_rules.specs.Caps.{highest}
use Rattle.relative_cap.specs.OwnRounds.{bid_value, cap_at, own_in, rounds_of}
use Rattle.relative_cap.proofs.AmountLaws.{price-least}
use Rattle.relative_cap.proofs.LevelLaws.{high_of-round}
use Rattle.relative_cap.proofs.caps.level_cap_by.Goals as goal

pub cap_from-requires-clause-least : goal.cap_from-requires-clause-least
cap_from-requires-clause-least c =
    let is : c.high_over-high.result ≡ highest (rounds_of c.args.j c.args.history.now) (map bid_value c.args.list.now)
    (own_in c.args.history.now c.args.j c.args.r).held
    = high_of-round c.args.history.now c.args.j (map bid_value c.args.list.now) c.args.r c.high_over-high.result c.requires.round.0 c.high_over-high.ensures in
    omega (
      arith,
      is,
      price-least c.args.history.now (map bid_value c.args.list.now) c.args.j c.args.r (own_in c.args.history.now c.args.j c.args.r).prices
          (own_in c.args.history.now c.args.j c.args.r).held
          c.requires.round.0 c.requires.round.1 refl refl,
    )

pub returns : goal.returns
returns c =
    let is : c.high_over-high.result ≡ highest (rounds_of c.args.j c.args.history.now) (map bid_value c.args.list.now)
    (own_in c.args.history.now c.args.j c.args.r).held
    = high_of-round c.args.history.now c.args.j (map bid_value c.args.list.now) c.args.r c.high_over-high.result c.requires.round.0 c.high_over-high.ensures in
    c.cap_from.ensures ∙ ap (λ n. cap_at n (own_in c.args.history.now c.args.j c.args.r) c.args.«package».now) is
