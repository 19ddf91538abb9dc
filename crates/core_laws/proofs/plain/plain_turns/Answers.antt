-- The weights are those of bidders who are alike.
use Rattle.std.proofs.Common.{sym}
use Rattle.auction_model.specs.Prices.{alike}
use Rattle.auction_model.proofs.WeightLaws.{nearest-same}
use Rattle.core_laws.proofs.PlainLaws.{less-plain, less-weighed}
use Rattle.core_laws.proofs.plain.plain_turns.Goals as goal

pub returns-clause-plain : goal.returns-clause-plain
returns-clause-plain c = λ m w z v rows p ones turn q among sum other.
    let own = nearest-same m w alike ones v _ p turn.nearest in
    less-plain _ _ _ _ _ _ (c.weighted_distance.ensures.plain m v p) (c.weighted_distance.ensures.plain m v q) (own q among sum other)

pub returns-clause-weighed : goal.returns-clause-weighed
returns-clause-weighed c = λ m w z v rows p ones meets least nearest. record {
  meets = meets;
  least = least;
  nearest = nearest-same m alike w (λ j some inside. sym (ones j some inside)) v _ p
      (λ q among sum other. less-weighed _ _ _ _ _ _ (c.weighted_distance.ensures.plain m v p) (c.weighted_distance.ensures.plain m v q)
      (nearest q among sum other));
}
