use Rattle.std.proofs.Common.{ℕ, ◌<◌, ◌+◌}
use Rattle.cert_check.specs.EarlierBids.{StaysBelow}
use Rattle.cert_check.proofs.tables.earlier.all_stay_below.Given as goal

abbrev pub invariant-loop-i : goal.invariant-loop-i
invariant-loop-i l = (h : ℕ) → h < l.i → StaysBelow l.book l.j l.line l.rest l.bound (h + 1)
