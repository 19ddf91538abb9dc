-- By the cases of the final round and of a final cap; the levels give the constraining round and the greatest clock bids.
use Rattle.std.proofs.Common.{map, sym, subst, ◌∙◌, arith}
use Rattle.relative_cap.specs.OwnRounds.{bid_value, rounds_of, IsConstraining}
use Rattle.relative_cap.proofs.CapLaws.{last-held, cap-none, cap-some, cap-by_round, cap-by_final}
use Rattle.relative_cap.proofs.LevelLaws.{constraining-by_peaks, level-high}
use Rattle.relative_cap.proofs.caps.level_cap.Goals as goal

pub returns-then-is_same : goal.returns-then-is_same
returns-then-is_same c =
    cap-none c.args.final_cap c.args.points.now (rounds_of c.args.j c.args.history.now) (map bid_value c.args.list.now) c.args.«package».now
    c.package.result.now
    (last-held c.args.history.now c.args.j c.rounds-last.result c.package.result.now c.requires.bidder.some c.rounds-last.ensures.rounds
    c.package.ensures.package)
    (sym c.is_same.ensures ∙ c.if-is_same.true)

pub level_cap_by-round_cap-requires-clause-round : goal.level_cap_by-round_cap-requires-clause-round
level_cap_by-round_cap-requires-clause-round c =
    let found = constraining-by_peaks c.args.history.now c.args.j c.points.result c.args.levels.peaks.now c.rounds-last.result c.last_peak-r.result
    c.rounds-last.ensures.rounds c.requires.levels.each_peak c.last_peak-r.ensures in
    (found.first, found.last)

pub level_cap_by-round_cap-requires-clause-high : goal.level_cap_by-round_cap-requires-clause-high
level_cap_by-round_cap-requires-clause-high c =
    let found = constraining-by_peaks c.args.history.now c.args.j c.points.result c.args.levels.peaks.now c.rounds-last.result c.last_peak-r.result
    c.rounds-last.ensures.rounds c.requires.levels.each_peak c.last_peak-r.ensures in
    level-high c.args.history.now c.args.j c.args.levels.peaks.now c.args.levels.highs.now c.last_peak-r.result c.requires.levels found.first found.last

pub level_cap_by-requires-clause-high : goal.level_cap_by-requires-clause-high
level_cap_by-requires-clause-high c =
    level-high c.args.history.now c.args.j c.args.levels.peaks.now c.args.levels.highs.now c.rounds-last.result c.requires.levels
    (omega (arith, c.rounds-last.ensures.rounds, c.requires.bidder.some)) (omega (arith, c.rounds-last.ensures.rounds))

pub returns-then-final_cap : goal.returns-then-final_cap
returns-then-final_cap c =
    let found = constraining-by_peaks c.args.history.now c.args.j c.points.result c.args.levels.peaks.now c.rounds-last.result c.last_peak-r.result
    c.rounds-last.ensures.rounds c.requires.levels.each_peak c.last_peak-r.ensures in
    cap-some c.args.final_cap c.args.points.now (rounds_of c.args.j c.args.history.now) (map bid_value c.args.list.now) c.args.«package».now
    c.package.result.now c.min.result
    (last-held c.args.history.now c.args.j c.rounds-last.result c.package.result.now c.requires.bidder.some c.rounds-last.ensures.rounds
    c.package.ensures.package)
    (sym c.is_same.ensures ∙ c.if-is_same.false)
    (cap-by_final c.args.final_cap c.args.points.now c.args.history.now (map bid_value c.args.list.now) c.args.«package».now c.args.j c.last_peak-r.result
    c.rounds-last.result
    c.level_cap_by-round_cap.result c.level_cap_by.result c.min.result c.if-final_cap.true
    (subst (λ n. IsConstraining n c.args.history.now c.args.j c.last_peak-r.result) c.points.ensures found) c.requires.bidder.some c.rounds-last.ensures.rounds
    c.level_cap_by-round_cap.ensures c.level_cap_by.ensures c.min.ensures)

pub returns-else-final_cap : goal.returns-else-final_cap
returns-else-final_cap c =
    let found = constraining-by_peaks c.args.history.now c.args.j c.points.result c.args.levels.peaks.now c.rounds-last.result c.last_peak-r.result
    c.rounds-last.ensures.rounds c.requires.levels.each_peak c.last_peak-r.ensures in
    cap-some c.args.final_cap c.args.points.now (rounds_of c.args.j c.args.history.now) (map bid_value c.args.list.now) c.args.«package».now
    c.package.result.now c.level_cap_by-round_cap.result
    (last-held c.args.history.now c.args.j c.rounds-last.result c.package.result.now c.requires.bidder.some c.rounds-last.ensures.rounds
    c.package.ensures.package)
    (sym c.is_same.ensures ∙ c.if-is_same.false)
    (cap-by_round c.args.final_cap c.args.points.now c.args.history.now (map bid_value c.args.list.now) c.args.«package».now c.args.j c.last_peak-r.result
    c.level_cap_by-round_cap.result c.if-final_cap.false (subst (λ n. IsConstraining n c.args.history.now c.args.j c.last_peak-r.result) c.points.ensures found)
    c.level_cap_by-round_cap.ensures)
