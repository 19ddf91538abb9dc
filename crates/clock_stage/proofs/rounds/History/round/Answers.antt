-- The lemmas on the rounds of a history.
use Rattle.std.proofs.Common.{sym, subst}
use Rattle.clock_stage.specs.Kept.{IsHistory, IsRound, bidders_in, categories_in}
use Rattle.clock_stage.proofs.HistoryLaws.{round-read, round-kept}
use Rattle.clock_stage.proofs.rounds.History.round.Goals as goal

pub returns-clause-round : goal.returns-clause-round
returns-clause-round c = round-read c.self.inside.rounds.items c.args.self.now c.args.r c.index.result.now c.self.view_is c.requires.0 c.requires.1
    c.index.ensures

pub returns-clause-kept : goal.returns-clause-kept
returns-clause-kept c =
    let kept : IsHistory c.args.self.now = subst IsHistory c.self.view_is c.self.invariant in
    subst (IsRound (bidders_in c.args.self.now) (categories_in c.args.self.now)) (sym (returns-clause-round c))
    (round-kept c.args.self.now c.args.r kept c.requires.0 c.requires.1)
