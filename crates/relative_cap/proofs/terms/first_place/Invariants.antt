-- The first place is counted from this one on.
use Rattle.std.proofs.Common.{◌≡◌, ◌+◌, drop}
use Rattle.relative_cap.specs.OwnRounds.{rounds_of}
use Rattle.relative_cap.specs.RoundsOfPackage.{first_place}
use Rattle.relative_cap.proofs.terms.first_place.Given as goal

abbrev pub invariant-loop-place : goal.invariant-loop-place
invariant-loop-place l = l.place + first_place (rounds_of l.j (drop l.place l.history)) l.«package» ≡ first_place (rounds_of l.j l.history) l.«package»
