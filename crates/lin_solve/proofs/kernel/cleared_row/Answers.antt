use Rattle.std.proofs.Common.{ℕ, ◌<◌, length, FitsSigned, rules, subst, sym, unsigned_abs}
use Rattle.std.specs.Int.{w128}
use Rattle.std.proofs.lemmas.Int.{to_z-of_z}
use Rattle.lin_solve.specs.Bounds.{bound}
use Rattle.lin_solve.specs.Elimination.{product}
use Rattle.wide_num.specs.Sums.{nth}
use Rattle.lin_solve.proofs.Rooms.{reach_small, product_small, mixed_room, reach_room, apart_left, bound_some}
use Rattle.lin_solve.proofs.kernel.cleared_row.Goals as goal

pub dot-s-requires-clause-room : goal.dot-s-requires-clause-room
dot-s-requires-clause-room c =
    reach_room c.requires.small.limit (bound c.requires.small.limit (length c.args.line.now)) _
    (bound_some c.requires.small.limit (length c.args.line.now) c.requires.small.some)
    (reach_small c.args.line.now c.args.w.now c.requires.small.limit (bound c.requires.small.limit (length c.args.line.now)) c.requires.small.sized
    c.requires.small.right) c.requires.small.room

pub dot-t-requires-clause-room : goal.dot-t-requires-clause-room
dot-t-requires-clause-room c =
    reach_room c.requires.small.limit (bound c.requires.small.limit (length c.args.line.now)) _
    (bound_some c.requires.small.limit (length c.args.line.now) c.requires.small.some)
    (reach_small c.args.line.now c.args.v.now c.requires.small.limit (bound c.requires.small.limit (length c.args.line.now)) c.requires.small.sized
    c.requires.small.left) c.requires.small.room

pub reduced-requires-clause-room : goal.reduced-requires-clause-room
reduced-requires-clause-room c =
    let s : FitsSigned w128 c.dot-s.result = search rules in
    let t : FitsSigned w128 c.dot-t.result = search rules in
    simp to_z-of_z (simp (c.dot-s.ensures, c.dot-t.ensures) (λ i l.
    let k : i < length c.args.line.now = subst (λ (n : ℕ). i < n) (sym c.requires.long.0) l in
    mixed_room (unsigned_abs (product c.args.line.now c.args.w.now)) (unsigned_abs (product c.args.line.now c.args.v.now)) (unsigned_abs (nth c.args.v.now i))
    (unsigned_abs (nth c.args.w.now i)) c.requires.small.limit (bound c.requires.small.limit (length c.args.line.now))
    (product_small c.args.line.now c.args.w.now c.requires.small.limit (bound c.requires.small.limit (length c.args.line.now)) c.requires.small.sized
    c.requires.small.right)
    (product_small c.args.line.now c.args.v.now c.requires.small.limit (bound c.requires.small.limit (length c.args.line.now)) c.requires.small.sized
    c.requires.small.left)
    (c.requires.small.left i k) (c.requires.small.right i k) c.requires.small.room))

pub reduced-requires-clause-apart : goal.reduced-requires-clause-apart
reduced-requires-clause-apart c =
    let s : FitsSigned w128 c.dot-s.result = search rules in
    let t : FitsSigned w128 c.dot-t.result = search rules in
    simp to_z-of_z (simp (c.dot-s.ensures, c.dot-t.ensures) (
      c.requires.apart.0,
      c.requires.apart.1,
      apart_left (product c.args.line.now c.args.w.now) (product c.args.line.now c.args.v.now) (nth c.args.v.now c.requires.apart.0)
          (nth c.args.w.now c.requires.apart.0) c.requires.apart.4 c.requires.apart.2 c.requires.apart.3,
    ))
