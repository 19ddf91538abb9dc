-- The greatest eligibilities give the constraining round.
use Rattle.std.proofs.Common.{subst, ap, ◌∙◌}
use Rattle.auction_model.specs.PackageTests.{is_same}
use Rattle.relative_cap.specs.OwnRounds.{own_in, IsConstraining}
use Rattle.relative_cap.specs.RoundsOfPackage.{IsRoundTerms}
use Rattle.relative_cap.proofs.LevelLaws.{constraining-by_peaks}
use Rattle.relative_cap.proofs.terms.package_terms.Goals as goal

pub returns : goal.returns
returns c =
    let found = constraining-by_peaks c.args.history.now c.args.j c.points.result c.args.peaks.now c.rounds-last.result c.last_peak-r.result
    c.rounds-last.ensures.rounds c.requires.peaks.each c.last_peak-r.ensures in
    record {
      own = c.own_place.ensures;
      final = c.is_same.ensures ∙ ap (is_same c.args.«package».now) (c.package.ensures.package ∙ ap (λ n. (own_in c.args.history.now c.args.j n).held)
          c.rounds-last.ensures.rounds);
      round = c.last_peak-r.result;
      constraining = subst (λ n. IsConstraining n c.args.history.now c.args.j c.last_peak-r.result) c.points.ensures found;
      by_round = c.round_terms.ensures;
      by_last = subst (λ n. IsRoundTerms c.args.history.now c.args.j n c.args.«package».now c.round_terms-2.result) c.rounds-last.ensures.rounds
          c.round_terms-2.ensures;
    }
