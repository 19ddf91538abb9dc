use Rattle.std.proofs.Common.{◌∙◌, ap, refl}
use Rattle.stream_check.proofs.CheckLaws.{stands-first}
use Rattle.stream_check.proofs.check.StreamCheck.start.Goals as goal

pub returns-clause-stands : goal.returns-clause-stands
returns-clause-stands c =
    stands-first _ c.loop-k.room (record {
      bidders = ap (λ x. x.bidders) c.start.ensures.shape ∙ c.of.ensures.bidders;
      states_are = ap (λ x. x.states) c.start.ensures.shape ∙ c.of.ensures.states;
      weights = c.requires.weights;
    }) c.start.ensures.first.0 c.start.ensures.first.1 refl refl refl refl c.no_totals.ensures (c.start.ensures.fresh c.loop-k.room)
