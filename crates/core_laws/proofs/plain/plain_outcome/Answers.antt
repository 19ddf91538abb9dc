-- The weights are those of bidders who are alike.
use Rattle.auction_model.specs.Prices.{alike}
use Rattle.core_laws.proofs.PlainLaws.{less-plain}
use Rattle.core_laws.proofs.plain.plain_outcome.Goals as goal

pub returns : goal.returns
returns c = λ m w z p ones winning outcome.
    let plain = c.core_outcome.ensures.weights m w alike z p ones outcome in record {
      winners = winning;
      core = plain.core;
      least = plain.least;
      nearest = λ v prices q core sum other.
          less-plain _ _ _ _ _ _ (c.weighted_distance.ensures.plain m v p) (c.weighted_distance.ensures.plain m v q) (plain.nearest v prices q core sum other);
    }
