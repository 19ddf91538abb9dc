-- By the cases of the final round and of a final cap.
use Rattle.std.proofs.Common.{map, sym, ◌∙◌}
use Rattle.relative_cap.specs.OwnRounds.{bid_value, rounds_of}
use Rattle.relative_cap.proofs.CapLaws.{last-held, cap-none, cap-some, cap-by_round, cap-by_final}
use Rattle.relative_cap.proofs.caps.cap.Goals as goal

pub returns-then-is_same : goal.returns-then-is_same
returns-then-is_same c =
    cap-none c.args.final_cap c.args.points.now (rounds_of c.args.j c.args.history.now) (map bid_value c.args.list.now) c.args.«package».now
    c.package.result.now
    (last-held c.args.history.now c.args.j c.rounds-last.result c.package.result.now c.requires.bidder.some c.rounds-last.ensures.rounds
    c.package.ensures.package)
    (sym c.is_same.ensures ∙ c.if-is_same.true)

pub returns-then-final_cap : goal.returns-then-final_cap
returns-then-final_cap c =
    cap-some c.args.final_cap c.args.points.now (rounds_of c.args.j c.args.history.now) (map bid_value c.args.list.now) c.args.«package».now
    c.package.result.now c.min.result
    (last-held c.args.history.now c.args.j c.rounds-last.result c.package.result.now c.requires.bidder.some c.rounds-last.ensures.rounds
    c.package.ensures.package)
    (sym c.is_same.ensures ∙ c.if-is_same.false)
    (cap-by_final c.args.final_cap c.args.points.now c.args.history.now (map bid_value c.args.list.now) c.args.«package».now c.args.j
    c.constraining_round-r.result c.rounds-last.result
    c.cap_by-round_cap.result c.cap_by.result c.min.result c.if-final_cap.true c.constraining_round-r.ensures.greatest c.requires.bidder.some
    c.rounds-last.ensures.rounds
    c.cap_by-round_cap.ensures c.cap_by.ensures c.min.ensures)

pub returns-else-final_cap : goal.returns-else-final_cap
returns-else-final_cap c =
    cap-some c.args.final_cap c.args.points.now (rounds_of c.args.j c.args.history.now) (map bid_value c.args.list.now) c.args.«package».now
    c.package.result.now c.cap_by-round_cap.result
    (last-held c.args.history.now c.args.j c.rounds-last.result c.package.result.now c.requires.bidder.some c.rounds-last.ensures.rounds
    c.package.ensures.package)
    (sym c.is_same.ensures ∙ c.if-is_same.false)
    (cap-by_round c.args.final_cap c.args.points.now c.args.history.now (map bid_value c.args.list.now) c.args.«package».now c.args.j
    c.constraining_round-r.result
    c.cap_by-round_cap.result c.if-final_cap.false c.constraining_round-r.ensures.greatest c.cap_by-round_cap.ensures)
